-- The bytes of a text, whole, in pieces, or packed.
use Rattle.std.specs.List.{flat_map}
use Rattle.fca_model.specs.Tables.{Text}
use Rattle.command_io.specs.declared.text.Layout.{Layout}
use Rattle.command_io.specs.declared.text.Layout.TheVariants.{OneList, Pieces, Packed}

-- the bytes of a text in this layout
abbrev pub bytes_of : Layout → Text
bytes_of (OneList bytes) = bytes.items
bytes_of (Pieces pieces) = flat_map (λ piece. piece.items) pieces.items
bytes_of (Packed text) = text
