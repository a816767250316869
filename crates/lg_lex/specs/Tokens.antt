-- The tokens of a text, with their lines, or its first fault.
use Rattle.std.specs.Prelude.{ℕ, zero, suc, ◌+◌, ◌≡◌, ◌<◌, ◌≤◌, max, Bool, true, ◌&&◌, ◌||◌, ◌==◌, List, [], ◌∷◌, length, take, drop, fold, count_by, Option, Some, None, Result, Ok, Err}
use Rattle.lg_base.specs.declared.refusal.Refusal.{Refusal}
use Rattle.lg_lex.specs.declared.token.Token.{Token}
use Rattle.lg_lex.specs.declared.fronts.Front.{Front}
use Rattle.lg_lex.specs.declared.fronts.Front.TheVariants.{Nothing, Skips, Finds, Fails}
use Rattle.lg_lex.specs.Fronts.{front_at}

-- the line of a place: 1, and 1 more for each line feed before it
abbrev pub line_of : List ℕ → ℕ → ℕ
line_of text place = 1 + count_by (λ b. b == 10) (take place text)

abbrev pub with_byte : Bool → ℕ → Bool
with_byte fresh b = (b == 10) || (fresh && ((b == 32) || (b == 9)))

-- whether only spaces and tabs are before a place in its line
abbrev pub is_fresh : List ℕ → ℕ → Bool
is_fresh text place = fold with_byte true (take place text)

-- tokens in their order, and the fault after them where there is one
abbrev pub Tokens : Type 0
Tokens = List Token × Option Refusal

abbrev pub token_then : Token → Tokens → Tokens
token_then token tokens = (token ∷ tokens.0, tokens.1)

-- each piece has at least a byte
abbrev pub after_piece : ℕ → ℕ → ℕ
after_piece place n = place + max 1 n

unfoldable pub with_front : List ℕ → ℕ → (ℕ → Tokens) → Front → Tokens
with_front text place behind Nothing = ([], None)
with_front text place behind (Skips n) = behind (after_piece place n)
with_front text place behind (Finds kind n value) = token_then
    (record { kind = kind; line = line_of text place; start = place; end = after_piece place n; value = value })
    (behind (after_piece place n))
with_front text place behind (Fails kind) = ([], Some (record { kind = kind; line = line_of text place }))

-- the tokens from a place on, in at most this many pieces
unfoldable pub tokens_from : ℕ → List ℕ → ℕ → Tokens
tokens_from zero text place = ([], None)
tokens_from (suc k) text place = with_front text place (tokens_from k text) (front_at (is_fresh text place) (drop place text))

-- the tokens from a place on: no text has more pieces than bytes
unfoldable pub tokens_at : List ℕ → ℕ → Tokens
tokens_at text place = tokens_from (suc (length text)) text place

-- the tokens of a text
abbrev pub tokens_of : List ℕ → Tokens
tokens_of text = tokens_at text 0

-- tokens in their order: each has at least a byte, lies within the text, and begins at or after the end of the one before it
abbrev pub AreInOrder : List ℕ → ℕ → List Token → Type 0
AreInOrder text place [] = Unit {0}
AreInOrder text place (token ∷ more) =
    (place ≤ token.start) × (token.start < token.end) × (token.end ≤ length text) × AreInOrder text token.end more

-- what the next call answers and leaves: the first token, then the others; at the end nothing, or the same fault again and again
abbrev pub GivesNext : List Token → Option Refusal → Result (Option Token) Refusal → Tokens → Type 0
GivesNext [] None result left = (result ≡ Ok None) × (left ≡ ([], None))
GivesNext [] (Some refusal) result left = (result ≡ Err refusal) × (left ≡ ([], Some refusal))
GivesNext (token ∷ more) fault result left = (result ≡ Ok (Some token)) × (left ≡ (more, fault))

abbrev pub Gives : Tokens → Result (Option Token) Refusal → Tokens → Type 0
Gives tokens result left = GivesNext tokens.0 tokens.1 result left

-- where the reader of a text stands: at a place, in its line
abbrev pub IsPlace : List ℕ → ℕ → ℕ → Bool → Type 0
IsPlace text place line fresh = (place ≤ length text) × (length text ≤ 16777216) × (line ≡ line_of text place) × (fresh ≡ is_fresh text place)
