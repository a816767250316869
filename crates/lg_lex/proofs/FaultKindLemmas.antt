-- For what tokens are refused: as no token, or as no expression.
use Rattle.std.proofs.Common.{◌≡◌, ◌⊎◌, inl, inr, ℕ, zero, suc, ◌+◌, ◌&&◌, ◌||◌, Bool, true, false, cond, eqb, get_or, List, Option, Some, None, drop, length, refl}
use Rattle.std.specs.Char.{is_ascii_digit}
use Rattle.std.specs.List.{prefix_len}
use Rattle.std.specs.Option.{option_map_or}
use Rattle.lg_base.specs.WordBytes.{is_word_start}
use Rattle.lg_base.specs.declared.refusal.Refusal.{Refusal}
use Rattle.lg_base.specs.declared.refusal.RefusalKind.TheVariants.{BadToken, BadExpr}
use Rattle.lg_lex.specs.Blanks.{blank_at}
use Rattle.lg_lex.specs.Bytes.{is_in_line}
use Rattle.lg_lex.specs.Escapes.{character_at, string_at}
use Rattle.lg_lex.specs.Expressions.{expression_at}
use Rattle.lg_lex.specs.Fronts.{dollar_at, front_at, mark_at, marked_at, marker_at, token_at, word_at, word_len}
use Rattle.lg_lex.specs.Numbers.{number_at}
use Rattle.lg_lex.specs.Tokens.{Tokens, after_piece, is_fresh, tokens_at, tokens_from, tokens_of, with_front}
use Rattle.lg_lex.specs.declared.fronts.Front.{Front}
use Rattle.lg_lex.specs.declared.fronts.Front.TheVariants.{Nothing, Skips, Finds, Fails}
use Rattle.lg_lex.specs.declared.token.TokenKind.{TokenKind}
use Rattle.lg_lex.specs.declared.token.TokenKind.TheVariants.{Directive, Register, Name, Host}

-- the fault after the tokens of a text, where there is one
abbrev pub IsTokenFault : Option Refusal → Type 0
IsTokenFault None = Unit {0}
IsTokenFault (Some fault) = (fault.kind ≡ BadToken) ⊎ (fault.kind ≡ BadExpr)

-- the fault at the front of a text, where there is one
abbrev IsFrontFault : Front → Type 0
IsFrontFault (Fails kind) = (kind ≡ BadToken) ⊎ (kind ≡ BadExpr)
IsFrontFault front = Unit {0}

by_cond : (b : Bool) (x y : Front) → IsFrontFault x → IsFrontFault y → IsFrontFault (cond b x y)
by_cond true x y first second = first
by_cond false x y first second = second

bad_token : IsFrontFault (Fails BadToken)
bad_token = inl refl

bad_expression : IsFrontFault (Fails BadExpr)
bad_expression = inr refl

marked_fault : (kind : TokenKind) (bytes : List ℕ) → IsFrontFault (marked_at kind bytes)
unfolding marked_at
marked_fault kind bytes = by_cond (eqb (word_len (drop 1 bytes)) 0) _ _ bad_token tt

-- where there may be something at the front
map_fault : {X : Type 0} (found : X → Front) (o : Option X) (none : Front) → ((x : X) → IsFrontFault (found x)) → IsFrontFault none → IsFrontFault (option_map_or found o none)
map_fault found None none each last = last
map_fault found (Some x) none each last = each x

dollar_fault : (bytes : List ℕ) → IsFrontFault (dollar_at bytes)
unfolding dollar_at
dollar_fault bytes = by_cond (eqb (get_or bytes 1 0) 40) _ _ (map_fault _ (expression_at bytes) (Fails BadExpr) (λ x. tt) bad_expression) (marked_fault Name bytes)

marker_fault : (fresh : Bool) (bytes : List ℕ) → IsFrontFault (marker_at fresh bytes)
unfolding marker_at
marker_fault fresh bytes =
    by_cond (fresh && is_ascii_digit (get_or bytes (1 + prefix_len (λ b. eqb b 32) (drop 1 bytes)) 0)) (Skips (prefix_len is_in_line bytes)) (Fails BadToken) tt bad_token

mark_fault : (fresh : Bool) (bytes : List ℕ) → IsFrontFault (mark_at fresh bytes)
unfolding mark_at
mark_fault fresh bytes = let b = get_or bytes 0 0 in
    by_cond (eqb b 35) _ _ (marker_fault fresh bytes) (by_cond (eqb b 46) _ _ (marked_fault Directive bytes)
    (by_cond (eqb b 37) _ _ (marked_fault Register bytes) (by_cond (eqb b 64) _ _ (marked_fault Host bytes)
    (by_cond (eqb b 36) _ _ (dollar_fault bytes) (by_cond (eqb b 39) _ _ (map_fault _ (character_at bytes) (Fails BadToken) (λ x. tt) bad_token)
    (by_cond (eqb b 34) _ _ (map_fault _ (string_at bytes) (Fails BadToken) (λ x. tt) bad_token) bad_token))))))

token_fault : (fresh : Bool) (bytes : List ℕ) → IsFrontFault (token_at fresh bytes)
unfolding token_at word_at
token_fault fresh bytes =
    by_cond (is_word_start (get_or bytes 0 0)) _ _ (by_cond (eqb (get_or bytes (word_len bytes) 0) 58) _ _ tt tt)
    (by_cond (is_ascii_digit (get_or bytes 0 0) || (eqb (get_or bytes 0 0) 45 || eqb (get_or bytes 0 0) 43)) _ _ (map_fault _ (number_at bytes) (Fails BadToken) (λ x. tt) bad_token)
    (mark_fault fresh bytes))

front_fault : (fresh : Bool) (bytes : List ℕ) → IsFrontFault (front_at fresh bytes)
unfolding front_at
front_fault fresh bytes = by_cond (eqb (length bytes) 0) _ _ tt (map_fault Skips (blank_at bytes) (token_at fresh bytes) (λ n. tt) (token_fault fresh bytes))

-- and so are its tokens
with_fault : (text : List ℕ) (place : ℕ) (behind : ℕ → Tokens) (front : Front) → IsFrontFault front → ((next : ℕ) → IsTokenFault (behind next).1) → IsTokenFault (with_front text place behind front).1
unfolding with_front
with_fault text place behind Nothing other rest = tt
with_fault text place behind (Skips n) other rest = rest (after_piece place n)
with_fault text place behind (Finds kind n value) other rest = rest (after_piece place n)
with_fault text place behind (Fails kind) other rest = other

from_fault : (k : ℕ) (text : List ℕ) (place : ℕ) → IsTokenFault (tokens_from k text place).1
unfolding tokens_from
from_fault zero text place = tt
from_fault (suc k) text place = with_fault text place (tokens_from k text) (front_at (is_fresh text place) (drop place text)) (front_fault (is_fresh text place) (drop place text)) (from_fault k text)

pub tokens_fault : (text : List ℕ) → IsTokenFault (tokens_of text).1
unfolding tokens_at
tokens_fault text = from_fault (suc (length text)) text 0
