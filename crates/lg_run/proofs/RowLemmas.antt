-- Texts that grow row by row.
use Rattle.std.proofs.Common.{◌≡◌, ℕ, suc, ◌+◌, ◌-◌, ◌<◌, ◌≤◌, List, [], ◌++◌, sym, ap, ◌∙◌, arith, append_assoc, append-nil}
use Rattle.lg_run.specs.Made.{call_of, calls, functions, one_function, one_piece, pieces}

one_less : (n k : ℕ) → k < n → n - k ≡ suc (n - (k + 1))
one_less n k h = omega (arith, h)

none_left : (n k : ℕ) → n ≤ k → n - k ≡ 0
none_left n k h = omega (arith, h)

-- a part that is added is the first of those that were left
added : (all text part rest new : List ℕ) → all ≡ text ++ (part ++ rest) → new ≡ text ++ part → all ≡ new ++ rest
added all text part rest new before now = before ∙ sym (append_assoc text part rest) ∙ ap (λ t. t ++ rest) (sym now)

-- what has nothing left is all
whole : (all text : List ℕ) → all ≡ text ++ [] → text ≡ all
whole all text e = sym (e ∙ append-nil text)

pub call_added : (all text new : List ℕ) (k : ℕ) → k < 18 → all ≡ text ++ calls (18 - k) k → new ≡ text ++ call_of k → all ≡ new ++ calls (18 - (k + 1)) (k + 1)
unfolding calls
call_added all text new k h before now = added all text (call_of k) (calls (18 - (k + 1)) (k + 1)) new (before ∙ ap (λ n. text ++ calls n k) (one_less 18 k h)) now

pub calls_whole : (all text : List ℕ) (k : ℕ) → 18 ≤ k → all ≡ text ++ calls (18 - k) k → text ≡ all
unfolding calls
calls_whole all text k h before = whole all text (before ∙ ap (λ n. text ++ calls n k) (none_left 18 k h))

pub function_added : (all text new : List ℕ) (k x : ℕ) → k < 18 → all ≡ text ++ functions (18 - k) k x → new ≡ text ++ (one_function k x).0
    → all ≡ new ++ functions (18 - (k + 1)) (k + 1) (one_function k x).1
unfolding functions
function_added all text new k x h before now =
    added all text (one_function k x).0 (functions (18 - (k + 1)) (k + 1) (one_function k x).1) new (before ∙ ap (λ n. text ++ functions n k x) (one_less 18 k h)) now

pub functions_whole : (all text : List ℕ) (k x : ℕ) → 18 ≤ k → all ≡ text ++ functions (18 - k) k x → text ≡ all
unfolding functions
functions_whole all text k x h before = whole all text (before ∙ ap (λ n. text ++ functions n k x) (none_left 18 k h))

pub piece_added : (all text new : List ℕ) (k x : ℕ) → k < 64 → all ≡ text ++ (pieces (64 - k) x).0 → new ≡ text ++ (one_piece x).0
    → all ≡ new ++ (pieces (64 - (k + 1)) (one_piece x).1).0
unfolding pieces
piece_added all text new k x h before now =
    added all text (one_piece x).0 (pieces (64 - (k + 1)) (one_piece x).1).0 new (before ∙ ap (λ n. text ++ (pieces n x).0) (one_less 64 k h)) now

pub state_after : (k x : ℕ) → k < 64 → (pieces (64 - k) x).1 ≡ (pieces (64 - (k + 1)) (one_piece x).1).1
unfolding pieces
state_after k x h = ap (λ n. (pieces n x).1) (one_less 64 k h)

pub pieces_whole : (all text : List ℕ) (k x : ℕ) → 64 ≤ k → all ≡ text ++ (pieces (64 - k) x).0 → text ≡ all
unfolding pieces
pieces_whole all text k x h before = whole all text (before ∙ ap (λ n. text ++ (pieces n x).0) (none_left 64 k h))

pub state_at_end : (k x : ℕ) → 64 ≤ k → (pieces (64 - k) x).1 ≡ x
unfolding pieces
state_at_end k x h = ap (λ n. (pieces n x).1) (none_left 64 k h)

-- five parts, one after another, from nothing
pub five : (start one two three four text a b c d e : List ℕ) → start ≡ [] → one ≡ start ++ a → two ≡ one ++ b → three ≡ two ++ c → four ≡ three ++ d → text ≡ four ++ e
    → text ≡ a ++ (b ++ (c ++ (d ++ e)))
five start one two three four text a b c d e h0 h1 h2 h3 h4 h5 = rw (h5, h4, h3, h2, h1, h0) (append_assoc ((a ++ b) ++ c) d e ∙ append_assoc (a ++ b) c (d ++ e) ∙ append_assoc a b (c ++ (d ++ e)))
