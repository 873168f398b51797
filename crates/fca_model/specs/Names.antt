-- Names, of objects, attributes and experts and as titles.
--
-- A name is a text of 1 to MAX_NAME_BYTES bytes without a line break, so that it stands on one line in each format. Its bytes are UTF-8.
use Rattle.std.specs.Prelude.{◌≡◌, ℕ, Bool, ◌||◌, ◌==◌, nat_lt, cond, Option, Some, None, length, IsUtf8}
use Rattle.std.specs.List.{list_any}
use Rattle.fca_model.specs.Tables.{Text}
use Rattle.fca_model.specs.declared.TheConstants.{MAX_NAME_BYTES}
use Rattle.fca_model.specs.declared.names.NameFault.{NameFault}
use Rattle.fca_model.specs.declared.names.NameFault.TheVariants.{Empty, Long, Line}

-- a line feed or a carriage return
abbrev pub is_line_break : ℕ → Bool
is_line_break byte = (byte == 10) || (byte == 13)

-- why the bytes are no name: there are none, too many, or one is a line break, in this order; None if they are a name
unfoldable pub name_fault : Text → Option NameFault
name_fault bytes =
    cond (length bytes == 0) (Some Empty)
    (cond (nat_lt MAX_NAME_BYTES (length bytes)) (Some Long)
    (cond (list_any is_line_break bytes) (Some Line) None))

-- the bytes are a name
pub record IsName (bytes : Text) : Type 0 where
  pub faultless : name_fault bytes ≡ None
  pub utf8 : IsUtf8 bytes
