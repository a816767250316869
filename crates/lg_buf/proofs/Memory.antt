-- The bytes of a region: one is taken out and put back, one is put after them, and all are room again.
use Rattle.std.proofs.Common.{◌≡◌, ℕ, suc, ◌+◌, ◌<◌, List, [], ◌∷◌, ◌++◌, length, get_or, set, refl, sym, arith, zero-add, w8}
use seplogic.Ra.Ura.{Ura}
use base.Fraction.{full_share}
use mir.Syntax.{ty_int}
use mir.Val.{vint}
use base.Logic.{ent}
use base.Fml.{Fml, Share, fat, froom}
use types.Logic.{Logic}
use types.Kit.{⋆, ‵, ◌⊛◌, ◌$◌, ◌∵◌, !, qed, by, move, use1, use2, split, fsplit, fjoin, drop, rewrite, done}
use denote.Builtin.{u8}
use denote.Memory.{part_at, shares}
use denote.Plain.{uint_in, uint_out}
use denote.Index.{row, others, takes, puts, puts_back, place, place_byte}
use Rattle.lg_buf.specs.Ownership.{bytes_of}

module _ {M : Type 1} {𝓤 : Ura M} (𝓛 : Logic 𝓤) (b : ℕ) where
  abbrev pub bytes : List ℕ → ℕ → Fml
  bytes xs o = row u8 full_share xs b o

  abbrev pub byte : ℕ → ℕ → Fml
  byte x o = part_at u8 full_share x b o

  abbrev pub cell : ℕ → ℕ → Fml
  cell x o = fat full_share (ty_int w8) b o (vint w8 x)

  abbrev pub spare : ℕ → ℕ → Fml
  spare n o = froom (bytes_of n) b o

  abbrev pub rest : List ℕ → ℕ → ℕ → Fml
  rest xs i o = others (shares u8) full_share xs i b o

  pub cell_out : (xs : List ℕ) (i o : ℕ) → i < length xs → ent 𝓤 (⋆ 𝓛 (‵ (bytes xs o) ∷ [])) (⋆ 𝓛 (‵ (cell (get_or xs i 0) (i + o)) ∷ ‵ (rest xs i o) ∷ []))
  cell_out xs i o inside =
      qed 𝓛 (‵ (bytes xs o) ∷ []) ∵
      use1 𝓛 (‵ (byte (get_or xs i 0) (place 1 o i)) ⊛ ‵ (rest xs i o)) (takes (shares u8) full_share 𝓛 xs i 0 b o inside) $ split ! $
      rewrite ! 0 (λ (k : ℕ). ‵ (byte (get_or xs i 0) k)) (place_byte o i) refl $
      use1 𝓛 (‵ (cell (get_or xs i 0) (i + o))) (uint_out 𝓛 full_share w8 (get_or xs i 0) b (i + o)) $ done !

  pub cell_in : (xs : List ℕ) (i x o : ℕ) → i < length xs → ent 𝓤 (⋆ 𝓛 (‵ (cell x (i + o)) ∷ ‵ (rest xs i o) ∷ [])) (⋆ 𝓛 (‵ (bytes (set xs i x) o) ∷ []))
  cell_in xs i x o inside =
      qed 𝓛 (‵ (cell x (i + o)) ∷ ‵ (rest xs i o) ∷ []) ∵
      use1 𝓛 (‵ (byte x (i + o))) (uint_in 𝓛 full_share w8 x b (i + o)) $
      rewrite ! 0 (λ (k : ℕ). ‵ (byte x k)) (sym (place_byte o i)) refl $
      by ! (puts (shares u8) full_share 𝓛 xs i x b o inside)

  pub behind : (xs : List ℕ) (x o : ℕ) → ent 𝓤 (⋆ 𝓛 (‵ (bytes xs o) ∷ ‵ (byte x (place 1 o (length xs))) ∷ [])) (⋆ 𝓛 (‵ (bytes (xs ++ x ∷ []) o) ∷ []))
  behind [] x o = qed 𝓛 (‵ (bytes [] o) ∷ ‵ (byte x o) ∷ []) ∵ move ! (1 ∷ 0 ∷ []) $ fjoin ! $ done !
  behind (y ∷ ys) x o =
      qed 𝓛 (‵ (bytes (y ∷ ys) o) ∷ ‵ (byte x (place 1 (o + 1) (length ys))) ∷ []) ∵ fsplit ! $ move ! (1 ∷ 2 ∷ []) $
      use2 𝓛 (‵ (bytes (ys ++ x ∷ []) (o + 1))) (behind ys x (o + 1)) $ move ! (1 ∷ 0 ∷ []) $ fjoin ! $ done !

  pub after_all : (xs ys : List ℕ) (o : ℕ) → ent 𝓤 (⋆ 𝓛 (‵ (bytes xs o) ∷ ‵ (bytes ys (place 1 o (length xs))) ∷ [])) (⋆ 𝓛 (‵ (bytes (xs ++ ys) o) ∷ []))
  after_all [] ys o = qed 𝓛 (‵ (bytes [] o) ∷ ‵ (bytes ys o) ∷ []) ∵ drop ! $ done !
  after_all (x ∷ xs) ys o =
      qed 𝓛 (‵ (bytes (x ∷ xs) o) ∷ ‵ (bytes ys (place 1 (o + 1) (length xs))) ∷ []) ∵ fsplit ! $ move ! (1 ∷ 2 ∷ []) $
      use2 𝓛 (‵ (bytes (xs ++ ys) (o + 1))) (after_all xs ys (o + 1)) $ move ! (1 ∷ 0 ∷ []) $ fjoin ! $ done !

  pub all_room : (xs : List ℕ) (n o : ℕ) → ent 𝓤 (⋆ 𝓛 (‵ (bytes xs o) ∷ ‵ (spare n (place 1 o (length xs))) ∷ [])) (⋆ 𝓛 (‵ (spare (length xs + n) o) ∷ []))
  all_room [] n o = qed 𝓛 (‵ (bytes [] o) ∷ ‵ (spare n o) ∷ []) ∵ drop ! $ rewrite ! 0 (λ (k : ℕ). ‵ (spare k o)) (sym (zero-add n)) refl $ done !
  all_room (y ∷ ys) n o =
      let e : suc (length ys + n) ≡ suc (length ys) + n = omega arith in
      qed 𝓛 (‵ (bytes (y ∷ ys) o) ∷ ‵ (spare n (place 1 (o + 1) (length ys))) ∷ []) ∵ fsplit ! $ move ! (1 ∷ 2 ∷ []) $
      use2 𝓛 (‵ (spare (length ys + n) (o + 1))) (all_room ys n (o + 1)) $ move ! (1 ∷ []) $
      use1 𝓛 (‵ (cell y o)) (uint_out 𝓛 full_share w8 y b o) $ use1 𝓛 (‵ (froom (ty_int w8) b o)) (𝓛.laws.at_room (ty_int w8) b o (vint w8 y)) $
      use2 𝓛 (‵ (spare (suc (length ys + n)) o)) (𝓛.laws.room_cons (ty_int w8) (length ys + n) b o) $
      rewrite ! 0 (λ (k : ℕ). ‵ (spare k o)) e refl $ done !

  pub cell_back : (xs : List ℕ) (i o : ℕ) → i < length xs → ent 𝓤 (⋆ 𝓛 (‵ (cell (get_or xs i 0) (i + o)) ∷ ‵ (rest xs i o) ∷ [])) (⋆ 𝓛 (‵ (bytes xs o) ∷ []))
  cell_back xs i o inside =
      qed 𝓛 (‵ (cell (get_or xs i 0) (i + o)) ∷ ‵ (rest xs i o) ∷ []) ∵
      use1 𝓛 (‵ (byte (get_or xs i 0) (i + o))) (uint_in 𝓛 full_share w8 (get_or xs i 0) b (i + o)) $
      rewrite ! 0 (λ (k : ℕ). ‵ (byte (get_or xs i 0) k)) (sym (place_byte o i)) refl $
      by ! (puts_back (shares u8) full_share 𝓛 xs i 0 b o inside)

  -- the same for a share of the bytes, one of which is read
  module _ (q : Share) (xs : List ℕ) (i o : ℕ) where
    abbrev pub read_cell : Fml
    read_cell = fat q (ty_int w8) b (i + o) (vint w8 (get_or xs i 0))

    abbrev pub unread : Fml
    unread = others (shares u8) q xs i b o

    pub read_out : i < length xs → ent 𝓤 (⋆ 𝓛 (‵ (row u8 q xs b o) ∷ [])) (⋆ 𝓛 (‵ read_cell ∷ ‵ unread ∷ []))
    read_out inside =
        qed 𝓛 (‵ (row u8 q xs b o) ∷ []) ∵
        use1 𝓛 (‵ (part_at u8 q (get_or xs i 0) b (place 1 o i)) ⊛ ‵ unread) (takes (shares u8) q 𝓛 xs i 0 b o inside) $ split ! $
        rewrite ! 0 (λ (k : ℕ). ‵ (part_at u8 q (get_or xs i 0) b k)) (place_byte o i) refl $
        use1 𝓛 (‵ read_cell) (uint_out 𝓛 q w8 (get_or xs i 0) b (i + o)) $ done !

    pub read_back : i < length xs → ent 𝓤 (⋆ 𝓛 (‵ read_cell ∷ ‵ unread ∷ [])) (⋆ 𝓛 (‵ (row u8 q xs b o) ∷ []))
    read_back inside =
        qed 𝓛 (‵ read_cell ∷ ‵ unread ∷ []) ∵
        use1 𝓛 (‵ (part_at u8 q (get_or xs i 0) b (i + o))) (uint_in 𝓛 q w8 (get_or xs i 0) b (i + o)) $
        rewrite ! 0 (λ (k : ℕ). ‵ (part_at u8 q (get_or xs i 0) b k)) (sym (place_byte o i)) refl $
        by ! (puts_back (shares u8) q 𝓛 xs i 0 b o inside)
