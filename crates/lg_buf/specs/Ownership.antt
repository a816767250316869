-- What a region of bytes owns.
use Rattle.std.specs.Prelude.{ℕ, List, length}
use base.Fraction.{full_share}
use base.Fml.{Fml, Share, ffalse, fsep, froom}
use mir.Syntax.{Ty, w8, ty_int, ty_array}
use denote.Builtin.{u8}
use denote.Index.{row, place}
use denote.RawPtr.{Ptr, block_ptr, null_ptr}

-- n bytes
abbrev pub bytes_of : ℕ → Ty
bytes_of n = ty_array (ty_int w8) n

-- the bytes xs lie at p, and after them is room for n more
abbrev pub lie_before_room : Ptr → List ℕ → ℕ → Fml
lie_before_room (block_ptr b o) xs n = fsep (row u8 full_share xs b o) (froom (bytes_of n) b (place 1 o (length xs)))
lie_before_room null_ptr xs n = ffalse

-- the bytes xs lie at p
abbrev pub lie_at : Share → Ptr → List ℕ → Fml
lie_at q (block_ptr b o) xs = row u8 q xs b o
lie_at q null_ptr xs = ffalse

-- at p is room for n bytes
abbrev pub is_room : Ptr → ℕ → Fml
is_room (block_ptr b o) n = froom (bytes_of n) b o
is_room null_ptr n = ffalse
