use Rattle.std.proofs.Common.{◌≡◌, ◌≢◌, map, refl, ap, ap₂, sym, subst, inl, inr, [], true, ◌∙◌}
use Rattle.std.specs.Prelude.{string_bytes}
use Rattle.clap.specs.Words.{HasKind, IsAmong, Kinds, is_simple, is_simple_and_free, kind_of, matches_of, fault_of}
use Rattle.clap.specs.declared.error.Error.{Error}
use Rattle.clap.specs.declared.error.kind.ErrorKind.TheVariants.{OutOfMemory}
use Rattle.clap.proofs.OnLiterals.{clap_on_literals}
use Rattle.lg_command.specs.Rules.{app}
use Rattle.lg_command.proofs.Commands.{none_at}
use Rattle.lg_command.proofs.Ranges.{in_range}
use Rattle.lg_command.proofs.matches.matches_of.Goals as goal

simple : is_simple app ≡ true
unfolding app clap_on_literals
simple = refl

free : is_simple_and_free app ≡ true
unfolding app clap_on_literals
free = refl

pub returns-in-Ok-try_get_matches_from-clause-ok : goal.returns-in-Ok-try_get_matches_from-clause-ok
returns-in-Ok-try_get_matches_from-clause-ok c =
    let a = c.in-Ok.ensures in
    let words = c.as_slice.ensures.value in
    let found = c.in-Ok-try_get_matches_from.ensures in
    record {
      faultless = sym (ap₂ (λ p ws. fault_of p (map string_bytes ws)) a words) ∙ found.kinds (ap is_simple_and_free a ∙ free);
      are = (found.matches (ap is_simple a ∙ simple)).0 ∙ ap₂ (λ p ws. matches_of p (map string_bytes ws)) a words;
    }

pub returns-in-Ok-try_get_matches_from-clause-range : goal.returns-in-Ok-try_get_matches_from-clause-range
returns-in-Ok-try_get_matches_from-clause-range c =
    in_range c.in-Ok.command c.in-Ok.ensures c.in-Ok-try_get_matches_from.matches c.in-Ok-try_get_matches_from.ensures.parsed

-- an error other than running out of memory has a kind, so that there is one
has_kind : (kinds : Kinds) (e : Error) → HasKind kinds e → (kind_of e ≡ OutOfMemory → ⊥) → kinds ≢ []
has_kind kinds e (inl memory) other = λ none. other memory
has_kind kinds e (inr among) other = λ none. let P : Kinds → Type 0 = λ ks. IsAmong (kind_of e) ks in subst P none among

pub returns : goal.returns
returns c = record {
  ok = tt;
  range = tt;
  usage = λ e.
      let a = c.in-Ok.ensures in
      let words = c.as_slice.ensures.value in
      let fails = c.in-Err-try_get_matches_from.ensures in
      let other : kind_of c.in-Err-try_get_matches_from.error ≡ OutOfMemory → ⊥ = λ m. c.in_default.not-OutOfMemory (c.kind.ensures ∙ m) in
      let P : Kinds → Type 0 = λ ks. ks ≢ [] in
      none_at _ (subst P (ap₂ (λ p ws. fault_of p (map string_bytes ws)) a words)
      (has_kind _ c.in-Err-try_get_matches_from.error (fails.kinds (ap is_simple_and_free a ∙ free)) other));
}
