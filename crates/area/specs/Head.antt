-- The numbers of the head, which are the first parts of the area. Assumes nothing.
use Rattle.std.specs.Prelude.{ℕ}
use Rattle.area.specs.declared.Head.{Head}
use Rattle.area.specs.declared.Head.TheVariants.{Samples, Mark, Windows, Format}
use Rattle.area.specs.Layout.{samples_part, mark_part, windows_part, format_part}

abbrev pub part_of : Head → ℕ
part_of Samples = samples_part
part_of Mark = mark_part
part_of Windows = windows_part
part_of Format = format_part
