-- The worked examples, by computation.
use Rattle.std.proofs.Common.{refl}
use lib.Utf8.{encode}
use Rattle.std.specs.Fmt.{digits}
use Rattle.reader.specs.Readings.{read_on, reading}
use Rattle.sheet.specs.Fields.{clocks_named}
use Rattle.zone.specs.BoxCalls as box
use Rattle.zone.specs.BoxRows as box_rows
use Rattle.zone.specs.Checked.{zone_by, zone_of}
use Rattle.zone.specs.DifferenceCalls.{void, constrained, reset}
use Rattle.zone.specs.DifferenceRows.{closed, all_narrow, proper, empty_row, grid_row, whole_row, changed_row, judged_row, tightened_by, tightened_row, within_rows, zero_row}
use Rattle.zone.specs.Grids.{entry, listed, whole_grid, elapsed_grid, reset_grid, tightened_grid}
use Rattle.zone.specs.Tests.{every}
use Rattle.judgement.specs.Examples.{WorkedExamples}

pub worked_examples : WorkedExamples
unfolding digits encode read_on reading clocks_named zone_by zone_of void constrained reset closed all_narrow proper empty_row grid_row whole_row changed_row judged_row tightened_by tightened_row within_rows zero_row entry listed whole_grid elapsed_grid reset_grid tightened_grid every box.void box.constrained box.reset box_rows.ranges_row box_rows.proper box_rows.empty_row box_rows.void_row box_rows.whole_row box_rows.changed_row box_rows.within_rows box_rows.zero_row
worked_examples = record {
  differences = refl;
  boxes = refl;
  number_0 = refl;
  unreachability = refl;
  one_node = refl;
  struck_differences = refl;
  struck_boxes = refl;
  parted_differences = refl;
  parted_boxes = refl;
  loop_granted = refl;
  loop_uncovered = refl;
  loop_granted_boxes = refl;
  loop_uncovered_boxes = refl;
  loop_printed = refl;
  loop_printed_boxes = refl;
  atom_10000 = refl;
  atom_10001 = refl;
  bound_10000 = refl;
  bound_10001 = refl;
  bound_10000_boxes = refl;
  bound_10001_boxes = refl;
}
