-- The tokens of a text, one piece at a time.
use Rattle.std.proofs.Common.{◌≡◌, ℕ, zero, suc, ◌+◌, ◌<◌, ◌≤◌, ◌==◌, Bool, true, false, List, [], ◌∷◌, ◌++◌, length, take, drop, get_or, refl, sym, ap, subst, ◌∙◌, arith, Option, Some, None, Ok, fold, count_by, Err, true≢false, eqb-true}
use Rattle.std.specs.Prelude.{if◌then◌else◌}
use Rattle.std.specs.List.{prefix_len}
use Rattle.std.proofs.Math.Seq.{take-add}
use Rattle.std.proofs.lemmas.List.{drop-drop, drop_all, get_or-drop, length-drop, length-take-le}
use Rattle.std.proofs.lemmas.List.Sums.{sum_by-append, fold-append}
use Rattle.lg_base.specs.declared.refusal.Refusal.{Refusal}
use Rattle.lg_base.specs.declared.refusal.RefusalKind.{RefusalKind}
use Rattle.lg_lex.specs.declared.token.Token.{Token}
use Rattle.lg_lex.specs.declared.token.TokenKind.{TokenKind}
use Rattle.lg_lex.specs.declared.fronts.Front.{Front}
use Rattle.lg_lex.specs.declared.fronts.Front.TheVariants.{Nothing, Skips, Finds, Fails}
use Rattle.lg_lex.specs.Blanks.{blank_at}
use Rattle.lg_lex.specs.Bytes.{is_space}
use Rattle.lg_lex.specs.Fronts.{LiesWithin, front_at}
use Rattle.lg_lex.specs.Tokens.{line_of, with_byte, is_fresh, Tokens, token_then, after_piece, with_front, tokens_from, tokens_at, tokens_of, AreInOrder, Gives, IsPlace}
use Rattle.lg_lex.proofs.FrontLemmas.{front_within}

-- readers that agree after the piece agree
same_front : (text : List ℕ) (place : ℕ) (f g : ℕ → Tokens) (front : Front) → ((n : ℕ) → f (after_piece place n) ≡ g (after_piece place n)) → with_front text place f front ≡ with_front text place g front
unfolding with_front
same_front text place f g Nothing h = refl
same_front text place f g (Skips n) h = h n
same_front text place f g (Finds kind n value) h = ap (λ (tokens : Tokens). token_then (record { kind = kind; line = line_of text place; start = place; end = after_piece place n; value = value }) tokens) (h n)
same_front text place f g (Fails kind) h = refl

past_end : (k : ℕ) (text : List ℕ) (place : ℕ) → length text ≤ place → tokens_from k text place ≡ ([], None)
unfolding tokens_from with_front front_at
past_end zero text place h = refl
past_end (suc k) text place h = rw (drop_all place text h) refl

-- as many pieces as there are bytes are enough
enough : (j k : ℕ) (text : List ℕ) (place : ℕ) → length text ≤ place + j → length text ≤ place + k → tokens_from j text place ≡ tokens_from k text place
unfolding tokens_from
enough zero k text place p q = sym (past_end k text place (omega arith))
enough (suc j) zero text place p q = past_end (suc j) text place (omega arith)
enough (suc j) (suc k) text place p q =
    same_front text place (tokens_from j text) (tokens_from k text) (front_at (is_fresh text place) (drop place text))
    (λ n. enough j k text (after_piece place n) (omega arith) (omega arith))

-- the tokens from a place on are those of the piece there and after it
pub tokens_step : (text : List ℕ) (place : ℕ) → tokens_at text place ≡ with_front text place (tokens_at text) (front_at (is_fresh text place) (drop place text))
unfolding tokens_at tokens_from
tokens_step text place =
    same_front text place (tokens_from (length text) text) (tokens_at text) (front_at (is_fresh text place) (drop place text))
    (λ n. enough (length text) (suc (length text)) text (after_piece place n) (omega arith) (omega arith))

-- a piece is as long as it says
pub piece_end : (place end n : ℕ) (bytes piece : List ℕ) → piece ≡ take n bytes → n ≤ length bytes → end ≡ place + length piece → end ≡ place + n
piece_end place end n bytes piece e inside ends = ends ∙ ap (λ k. place + k) (ap length e ∙ length-take-le n bytes inside)

-- the place after a piece
pub place_after : (text : List ℕ) (place line n end line' : ℕ) (fresh fresh' : Bool) (bytes piece : List ℕ) → IsPlace text place line fresh → bytes ≡ drop place text → piece ≡ take n bytes → n ≤ length bytes → end ≡ place + length piece → line' ≡ line + count_by (λ b. b == 10) piece → fresh' ≡ fold with_byte fresh piece → IsPlace text end line' fresh'
place_after text place line n end line' fresh fresh' bytes piece at rest cut inside ends lines freshes =
    let len = ap length rest ∙ length-drop place text in
    let end' = piece_end place end n bytes piece cut inside ends in
    let whole : take end text ≡ take place text ++ piece = ap (λ k. take k text) end' ∙ take-add place n text ∙ ap (λ (xs : List ℕ). take place text ++ xs) (ap (take n) (sym rest) ∙ sym cut) in
    let count = ap (count_by (λ b. b == 10)) whole ∙ sum_by-append _ (take place text) piece in
    let folded = ap (fold with_byte true) whole ∙ fold-append with_byte _ (take place text) piece in
    (omega arith, at.1, omega arith, freshes ∙ ap (λ f. fold with_byte f piece) at.3 ∙ sym folded)

module _ (text : List ℕ) (place line : ℕ) (fresh : Bool) (at : IsPlace text place line fresh) (whole : Tokens) (same : tokens_at text place ≡ whole) where
  here : (front : Front) → front_at fresh (drop place text) ≡ front → whole ≡ with_front text place (tokens_at text) front
  here front is = sym same ∙ tokens_step text place ∙ ap (with_front text place (tokens_at text)) (ap (λ f. front_at f (drop place text)) (sym at.3) ∙ is)

  -- at the end of the text nothing is left
  pub gives_end : front_at fresh (drop place text) ≡ Nothing → Gives whole (Ok None) (tokens_at text place)
  unfolding with_front
  gives_end is = let e = here Nothing is in subst (λ (tokens : Tokens). Gives tokens (Ok None) (tokens_at text place)) (sym e) (refl, same ∙ e)

  -- at a fault the same fault is left
  pub gives_fault : (kind : RefusalKind) → front_at fresh (drop place text) ≡ Fails kind → Gives whole (Err (record { kind = kind; line = line })) (tokens_at text place)
  unfolding with_front
  gives_fault kind is =
      let lines = ap (λ l. Some (let r : Refusal = record { kind = kind; line = l } in r)) (sym at.2) in
      let e : whole ≡ ([], Some (record { kind = kind; line = line })) = here (Fails kind) is ∙ ap (λ (fault : Option Refusal). (let t : Tokens = ([], fault) in t)) lines in
      subst (λ (tokens : Tokens). Gives tokens (Err (record { kind = kind; line = line })) (tokens_at text place)) (sym e) (refl, same ∙ e)

  -- what is skipped leaves the tokens as they are
  pub skipped : (n end : ℕ) → 0 < n → end ≡ place + n → front_at fresh (drop place text) ≡ Skips n → tokens_at text end ≡ whole
  unfolding with_front
  skipped n end some e is =
      let piece : end ≡ after_piece place n = omega arith in
      ap (tokens_at text) piece ∙ sym (here (Skips n) is)

  -- a token is the first of what is left
  pub gives_token : (kind : TokenKind) (n value end : ℕ) → 0 < n → end ≡ place + n → front_at fresh (drop place text) ≡ Finds kind n value → Gives whole (Ok (Some (record { kind = kind; line = line; start = place; end = end; value = value }))) (tokens_at text end)
  unfolding with_front
  gives_token kind n value end some e is =
      let piece : after_piece place n ≡ end = omega arith in
      let token = λ (l : ℕ) (k : ℕ). (let t : Token = record { kind = kind; line = l; start = place; end = k; value = value } in t) in
      let first = ap (λ k. token (line_of text place) k) piece ∙ ap (λ l. token l end) (sym at.2) in
      let e' : whole ≡ token_then (token line end) (tokens_at text end) =
      here (Finds kind n value) is ∙ ap (λ k. token_then (token (line_of text place) (after_piece place n)) (tokens_at text k)) piece ∙ ap (λ (t : Token). token_then t (tokens_at text end)) first in
      subst (λ (tokens : Tokens). Gives tokens (Ok (Some (token line end))) (tokens_at text end)) (sym e') (refl, refl)

-- ---- white space, one byte at a time

not_end : (n : ℕ) → (suc n == 0) ≡ false
not_end n = by (suc n == 0) refl where
  by : (t : Bool) → (suc n == 0) ≡ t → t ≡ false
  by true e = let zero = eqb-true (suc n) 0 e in absurd (omega arith)
  by false e = refl

-- at the front of bytes that begin with white space stands white space
space_front : (fresh : Bool) (bytes : List ℕ) → is_space (get_or bytes 0 0) ≡ true → front_at fresh bytes ≡ Skips (prefix_len is_space bytes)
unfolding front_at blank_at
space_front fresh [] is = absurd (true≢false (sym is))
space_front fresh (b ∷ bytes) is = rw (not_end (length bytes), is) refl

no_space : (bytes : List ℕ) → is_space (get_or bytes 0 0) ≡ false → prefix_len is_space bytes ≡ 0
no_space [] is = refl
no_space (b ∷ bytes) is = rw is refl

pub one_space : (bytes : List ℕ) → is_space (get_or bytes 0 0) ≡ true → (prefix_len is_space bytes ≡ 1 + prefix_len is_space (drop 1 bytes)) × (0 < length bytes)
one_space [] is = absurd (true≢false (sym is))
one_space (b ∷ bytes) is = (rw is refl, omega arith)

module _ (text : List ℕ) (place : ℕ) where
  -- white space leaves the tokens as they are
  spaces_skipped : tokens_at text (place + prefix_len is_space (drop place text)) ≡ tokens_at text place
  unfolding with_front
  spaces_skipped = by (is_space (get_or (drop place text) 0 0)) refl where
    n : ℕ
    n = prefix_len is_space (drop place text)

    by : (t : Bool) → is_space (get_or (drop place text) 0 0) ≡ t → tokens_at text (place + n) ≡ tokens_at text place
    by true is =
        let some = one_space (drop place text) is in
        let piece : place + n ≡ after_piece place n = omega (arith, some.0) in
        ap (tokens_at text) piece ∙ sym (tokens_step text place ∙ ap (with_front text place (tokens_at text)) (space_front (is_fresh text place) (drop place text) is))
    by false is = let e : place + n ≡ place = omega (arith, no_space (drop place text) is) in ap (tokens_at text) e

-- so does one byte of it
pub space_skipped : (text : List ℕ) (place : ℕ) → is_space (get_or (drop place text) 0 0) ≡ true → tokens_at text (place + 1) ≡ tokens_at text place
space_skipped text place is =
    let one = one_space (drop place text) is in
    let n = prefix_len is_space (drop place text) in
    let m = prefix_len is_space (drop (place + 1) text) in
    let same : prefix_len is_space (drop 1 (drop place text)) ≡ m = ap (prefix_len is_space) (drop-drop 1 place text) in
    let e : (place + 1) + m ≡ place + n = omega (arith, one.0, same) in
    sym (spaces_skipped text (place + 1)) ∙ ap (tokens_at text) e ∙ spaces_skipped text place

-- the byte at a place is the first of those after it
pub byte_after : (text : List ℕ) (place : ℕ) → get_or text place 0 ≡ get_or (drop place text) 0 0
byte_after text place =
    let same : place + 0 ≡ place = omega arith in
    sym (get_or-drop place text 0 0 ∙ ap (λ k. get_or text k 0) same)

-- the place after one byte
pub place_after_byte : (text : List ℕ) (place line b end line' : ℕ) (fresh fresh' : Bool) (bytes : List ℕ) → IsPlace text place line fresh → bytes ≡ drop place text → b ≡ get_or bytes 0 0 → 0 < length bytes → end ≡ place + 1 → line' ≡ line + (if b == 10 then 1 else 0) → fresh' ≡ with_byte fresh b → IsPlace text end line' fresh'
place_after_byte text place line b end line' fresh fresh' [] at rest is some ends lines freshes = absurd (omega arith)
place_after_byte text place line b end line' fresh fresh' (x ∷ bytes) at rest is some ends lines freshes =
    let one : count_by (λ y. y == 10) (x ∷ []) ≡ (if x == 10 then 1 else 0) = omega arith in
    place_after text place line 1 end line' fresh fresh' (x ∷ bytes) (x ∷ []) at rest refl (omega arith) ends (lines ∙ ap (λ y. line + (if y == 10 then 1 else 0)) is ∙ ap (λ m. line + m) (sym one)) (freshes ∙ ap (with_byte fresh) is)

-- ---- the order of tokens

in_order_from : (text : List ℕ) (low high : ℕ) (tokens : List Token) → low ≤ high → AreInOrder text high tokens → AreInOrder text low tokens
in_order_from text low high [] h order = tt
in_order_from text low high (token ∷ more) h order = (omega (arith, order.0), order.1, order.2, order.3)

front_in_order : (text : List ℕ) (place : ℕ) (behind : ℕ → Tokens) → ((n : ℕ) → AreInOrder text (after_piece place n) (behind (after_piece place n)).0) → (front : Front) → LiesWithin front (length (drop place text)) → AreInOrder text place (with_front text place behind front).0
unfolding with_front
front_in_order text place behind rest Nothing inside = tt
front_in_order text place behind rest (Skips n) inside = in_order_from text place (after_piece place n) _ (omega arith) (rest n)
front_in_order text place behind rest (Finds kind n value) inside =
    let left = length-drop place text in
    let some = inside.0 in
    let most = inside.1 in
    (omega arith, omega arith, omega arith, rest n)
front_in_order text place behind rest (Fails kind) inside = tt

in_order : (k : ℕ) (text : List ℕ) (place : ℕ) → AreInOrder text place (tokens_from k text place).0
unfolding tokens_from
in_order zero text place = tt
in_order (suc k) text place =
    front_in_order text place (tokens_from k text) (λ n. in_order k text (after_piece place n)) (front_at (is_fresh text place) (drop place text)) (front_within (is_fresh text place) (drop place text))

-- the tokens of a text are in their order
pub tokens_of-order : (text : List ℕ) → AreInOrder text 0 (tokens_of text).0
unfolding tokens_at
tokens_of-order text = in_order (suc (length text)) text 0

-- tokens in their order are no more than the bytes after their place
count_in_order : (text : List ℕ) (place : ℕ) (tokens : List Token) → place ≤ length text → AreInOrder text place tokens → place + length tokens ≤ length text
count_in_order text place [] h order = omega arith
count_in_order text place (token ∷ more) h order =
    let rest = count_in_order text token.end more order.2 order.3 in
    omega (arith, order.0, order.1)

-- a text has no more tokens than bytes
pub length-tokens_of : (text : List ℕ) → length (tokens_of text).0 ≤ length text
length-tokens_of text = let count = count_in_order text 0 (tokens_of text).0 (omega arith) (tokens_of-order text) in omega arith
