-- The generator's text for a seed. What is drawn comes with the state that it leaves.
use Rattle.std.specs.Prelude.{ℕ, zero, suc, ◌+◌, ◌*◌, ◌/◌, ◌%◌, ◌^◌, ◌==◌, if◌then◌else◌, List, [], ◌∷◌, ◌++◌, codes}
use Rattle.lg_io.specs.Radixes.{digits_in}
use Rattle.lg_io.specs.Wrote.{row}
use Rattle.lg_io.specs.declared.digits.Radix.TheVariants.{Decimal}

-- ---- draws

-- the state after a draw
unfoldable pub next : ℕ → ℕ
next x = (x * 6364136223846793005 + 1442695040888963407) % 2 ^ 64

-- and what the draw gives that leaves it
abbrev pub drawn : ℕ → ℕ
drawn x = x / 2 ^ 33

-- a text, and the state after it
abbrev pub Drawn : Type 0
Drawn = List ℕ × ℕ

-- ---- pieces

-- a shift by a number that is drawn
abbrev pub turned : ℕ → Drawn
turned x = (row (codes "rshi_u %r0 %v0 " ∷ digits_in Decimal (drawn (next x) % 63 + 1) ∷ codes " xorr %v0 %v0 %r0\n" ∷ []), next x)

-- a sum with one
abbrev pub sum_of : ℕ → Drawn
sum_of x = (row (codes "addi %v1 %v1 " ∷ digits_in Decimal (drawn (next x)) ∷ codes "\n" ∷ []), next x)

-- the line of a piece, by which of the eight it is
abbrev pub piece_by : ℕ → ℕ → Drawn
piece_by which x =
    if which == 0 then (codes "addr %v0 %v0 %v1\n", x)
    else (if which == 1 then (codes "subr %v1 %v0 %v1\n", x)
    else (if which == 2 then (codes "xorr %v0 %v1 %v0\n", x)
    else (if which == 3 then (codes "mulr %v1 %v1 %v0\n", x)
    else (if which == 4 then turned x
    else (if which == 5 then sum_of x
    else (if which == 6 then (codes "ori %r1 %v1 1 remr_u %r2 %v0 %r1 addr %v0 %v0 %r2\n", x)
    else (codes "ltr_u %r0 %v0 %v1 addr %v1 %v1 %r0\n", x)))))))

-- a piece that is drawn
unfoldable pub one_piece : ℕ → Drawn
one_piece x = piece_by (drawn (next x) % 8) (next x)

-- this many
unfoldable pub pieces : ℕ → ℕ → Drawn
pieces zero x = ([], x)
pieces (suc k) x = ((one_piece x).0 ++ (pieces k (one_piece x).1).0, (pieces k (one_piece x).1).1)

-- ---- functions

abbrev pub start_of : (function first : ℕ) → List ℕ
start_of k c = row (codes "f" ∷ digits_in Decimal k ∷ codes ":\nprolog\narg $a\ngetarg %v0 $a\nmovi %v1 " ∷ digits_in Decimal c
    ∷ codes "\nmovi %v2 8\nl" ∷ digits_in Decimal k ∷ codes ":\n" ∷ [])

abbrev pub end_of : (function : ℕ) → List ℕ
end_of k = row (codes "subi %v2 %v2 1\nbgti l" ∷ digits_in Decimal k ∷ codes " %v2 0\nretr %v0\nepilog\n" ∷ [])

-- a function, which begins with a number that is drawn and has 64 pieces
unfoldable pub one_function : (function : ℕ) → ℕ → Drawn
one_function k x = (start_of k (drawn (next x)) ++ ((pieces 64 (next x)).0 ++ end_of k), (pieces 64 (next x)).1)

-- this many functions, from a number on
unfoldable pub functions : (count function : ℕ) → ℕ → List ℕ
functions zero k x = []
functions (suc n) k x = (one_function k x).0 ++ functions n (k + 1) (one_function k x).1

-- ---- the text

abbrev pub call_of : (function : ℕ) → List ℕ
call_of k = row (codes "prepare pushargr %v0 finishi f" ∷ digits_in Decimal k ∷ codes " retval %v0\n" ∷ [])

unfoldable pub calls : (count function : ℕ) → List ℕ
calls zero k = []
calls (suc n) k = call_of k ++ calls n (k + 1)

abbrev pub head : List ℕ
head = codes ".data 16\nfmt: .c \"sum %lx\\n\"\n.code\njmpi main\n"

abbrev pub main_head : List ℕ
main_head = codes "main:\nprolog\nmovi %v0 1\nmovi %v1 10\nagain:\n"

abbrev pub main_end : List ℕ
main_end = codes "subi %v1 %v1 1\nbgti again %v1 0\nprepare pushargi fmt ellipsis pushargr %v0 finishi @printf\nret\nepilog\n"

unfoldable pub made : (seed : ℕ) → List ℕ
made seed = head ++ (functions 18 0 seed ++ (main_head ++ (calls 18 0 ++ main_end)))
