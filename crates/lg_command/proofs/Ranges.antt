-- The numbers that clap reads in the words are in their ranges.
use Rattle.std.proofs.Common.{zero, suc, ◌≡◌, ◌∙◌, ◌<◌, ◌≤◌, ◌&&◌, ◌||◌, ap, ℕ, Bool, true, false, not, List, [], ◌∷◌, length, map, Option, Some, None, refl, sym, subst, inl, inr, arith, codes}
use Rattle.std.specs.Prelude.{is_some}
use Rattle.std.specs.List.{All, slice_index_or, list_all, list_any}
use Rattle.std.specs.Str.{bytes_eq}
use Rattle.std.proofs.lemmas.List.{get_or-map, length-map}
use Rattle.clap.specs.Built.{IsParsedFrom}
use Rattle.clap.specs.Facts.{args_of, groups_of, unwrap_or_range}
use Rattle.clap.specs.Matches.{found_of}
use Rattle.clap.specs.Walk.{Rule, Text, is_empty, is_simple_arg, rule_of, rows_of, one_of}
use Rattle.clap.specs.Words.{app_of, items_of, new_rule}
use Rattle.clap.specs.declared.builder.action.ArgAction.TheVariants.{Set}
use Rattle.clap.specs.declared.builder.arg.Arg.{Arg}
use Rattle.clap.specs.declared.builder.command.Command.{Command}
use Rattle.clap.specs.declared.builder.command.Command.TheViews.{out-Command}
use Rattle.clap.specs.declared.builder.value_parser.ValueParser.TheVariants as vp
use Rattle.clap.specs.declared.parser.matches.ArgMatches.{ArgMatches}
use Rattle.std.proofs.lemmas.Bool.{ne_eqb, and_parts, or_right, not-true}
use Rattle.std.proofs.lemmas.Slice.Eq.{bytes_eq-Decides}
use Rattle.clap.proofs.WalkLemmas.{one_text-rows}
use Rattle.lg_command.specs.Commands.{AreInRange, number_of}
use Rattle.lg_command.specs.Rules.{app, rules}
use Rattle.lg_command.proofs.Defaults.{IsDefaulted, default_reads}
use Rattle.lg_command.proofs.Numbers.{ranged_number}

-- the text is at this place, and at no other
abbrev stands_alone : ℕ → Text → List Rule → Bool
stands_alone k t [] = false
stands_alone zero t (r ∷ rs) = not (list_any (λ s. bytes_eq s.id t) rs)
stands_alone (suc k) t (r ∷ rs) = not (bytes_eq r.id t) && stands_alone k t rs

not_both : {B : Type 0} (b : Bool) → not b ≡ true → b ≡ true → B
not_both true is_not is = let bad : false ≡ true = is_not in cc
not_both false is_not is = let bad : false ≡ true = is in cc

nothing_in : {X : Type 0} (xs : List X) → is_empty xs ≡ true → xs ≡ []
nothing_in [] h = refl
nothing_in (x ∷ xs) h = let full : is_empty (x ∷ xs) ≡ false = ne_eqb _ _ (λ e. omega (arith, e)) in cc

none_of : {X : Type 0} (o : Option X) → not (is_some o) ≡ true → o ≡ None
none_of None h = refl
none_of (Some x) h = let bad : false ≡ true = h in cc

differ : (t u : Text) → bytes_eq t u ≡ false → t ≡ u → ⊥
differ t u other same = let alike = (bytes_eq-Decides t u).1 same in cc

any_at : (t : Text) (args : List Arg) (i : ℕ) (e : Arg) → i < length args → bytes_eq (slice_index_or args i e).id.now t ≡ true
    → list_any (λ s. bytes_eq s.id t) (map rule_of args) ≡ true
any_at t [] i e lt at = absurd (omega (arith, lt))
any_at t (a ∷ args) zero e lt at = ap (λ b. b || list_any (λ s. bytes_eq s.id t) (map rule_of args)) at
any_at t (a ∷ args) (suc i) e lt at = or_right (bytes_eq a.id.now t) _ (any_at t args i e (omega (arith, lt)) at)

alone_in : (t : Text) (args : List Arg) (k : ℕ) → stands_alone k t (map rule_of args) ≡ true
    → (j : ℕ) (e : Arg) → j < length args → bytes_eq (slice_index_or args j e).id.now t ≡ true → j ≡ k
alone_in t [] k alone j e lt at = absurd (omega (arith, lt))
alone_in t (a ∷ args) zero alone zero e lt at = refl
alone_in t (a ∷ args) zero alone (suc j) e lt at = not_both _ alone (any_at t args j e (omega (arith, lt)) at)
alone_in t (a ∷ args) (suc k) alone zero e lt at = not_both _ (and_parts _ _ alone).0 at
alone_in t (a ∷ args) (suc k) alone (suc j) e lt at = ap suc (alone_in t args k (and_parts _ _ alone).1 j e (omega (arith, lt)) at)

no_groups_in : (args : List Arg) → list_all (λ r. r.is_simple) (map rule_of args) ≡ true
    → (k : ℕ) (d : Arg) → k < length args → (slice_index_or args k d).groups.items ≡ []
no_groups_in [] h k d lt = absurd (omega (arith, lt))
no_groups_in (a ∷ args) h zero d lt =
    let simple = and_parts _ _ (and_parts _ _ h).0 in
    let ifs = and_parts _ _ simple.1 in
    nothing_in a.groups.items (and_parts _ _ ifs.1).0
no_groups_in (a ∷ args) h (suc k) d lt = no_groups_in args (and_parts _ _ h).1 k d (omega (arith, lt))

simple_parts : (a : Arg) → is_simple_arg a ≡ true → (a.default_vals_ifs.items ≡ []) × (a.val_delim ≡ None)
simple_parts a simple =
    let ifs = and_parts (is_empty a.default_vals_ifs.items) _ (and_parts (is_empty a.overrides.items) _ simple).1 in
    let delim = and_parts (not (is_some a.val_delim)) _ (and_parts (is_empty a.groups.items) _ ifs.1).1 in
    (nothing_in a.default_vals_ifs.items ifs.0, none_of a.val_delim delim.0)

-- an option that takes a number in a range
abbrev number_rule : (id text : Text) (low high : ℕ) → Rule
number_rule id text low high = record (new_rule id) { long = Some id; action = Some Set; defaults = text ∷ []; parser = Some (vp.Unsigned low high) }

module _ (cmd : Command) (is : app_of cmd ≡ app) where
  rules_are : map rule_of (args_of cmd) ≡ rules
  unfolding app
  rules_are = ap (λ a. a.top.rules) is

  plain : (app_of cmd).top.is_plain ≡ true
  unfolding app
  plain = ap (λ a. a.top.is_plain) is

  as_many : length (args_of cmd) ≡ length rules
  as_many = sym (length-map (args_of cmd) rule_of) ∙ ap length rules_are

  rule_at : (k : ℕ) (d : Arg) → k < length rules → rule_of (slice_index_or (args_of cmd) k d) ≡ slice_index_or rules k (rule_of d)
  rule_at k d lt =
      let under : k < length (args_of cmd) = subst (λ n. k < n) (sym as_many) lt in
      sym (get_or-map rule_of (args_of cmd) k d (rule_of d) under) ∙ ap (λ l. slice_index_or l k (rule_of d)) rules_are

  no_groups : groups_of cmd ≡ []
  no_groups = nothing_in (groups_of cmd) (and_parts _ _ plain).0

  no_globals : (out-Command cmd).has_globals ≡ false
  no_globals = not-true _ (and_parts _ _ (and_parts _ _ (and_parts _ _ plain).1).1).0

  none_named : All (λ a. a.groups.items ≡ []) (args_of cmd)
  none_named = no_groups_in (args_of cmd) (ap (list_all (λ r. r.is_simple)) rules_are)

  -- an option with a default, which is a number in a range
  defaulted : (k : ℕ) (d : Arg) (id text : Text) (low high : ℕ) → rule_of (slice_index_or (args_of cmd) k d) ≡ number_rule id text low high
      → k < length rules → stands_alone k id rules ≡ true → bytes_eq id [] ≡ false → bytes_eq id (codes "help") ≡ false → bytes_eq id (codes "version") ≡ false
      → IsDefaulted cmd k d id (vp.Unsigned low high)
  defaulted k d id text low high rule lt alone some help version =
      let a = slice_index_or (args_of cmd) k d in
      let simple : is_simple_arg a ≡ true = ap (λ r. r.is_simple) rule in
      let parts = simple_parts a simple in
      let one = ap (λ r. length r.defaults) rule in
      let given = length-map (items_of a.default_vals) (λ s. s.now) in
      record {
        among = subst (λ n. k < n) (sym as_many) lt;
        named = ap (λ r. r.id) rule;
        default = (parts.0, omega (arith, one, given));
        action = ap (λ r. r.action) rule;
        delim = parts.1;
        least = subst (λ n. 1 ≤ (unwrap_or_range n).start_inclusive) (sym (ap (λ r. r.range) rule)) (omega arith);
        parsed = ap (λ r. r.parser) rule;
        cased = ap (λ r. r.ignore_case) rule;
        alone = alone_in id (args_of cmd) k (ap (stands_alone k id) rules_are ∙ alone);
        some = differ id [] some;
        own = λ auto. elim auto [ inl h ↦ differ id (codes "help") help h | inr h ↦ differ id (codes "version") version h ];
      }

  number_in : (m : ArgMatches) → IsParsedFrom cmd m → (k : ℕ) (d : Arg) (id text : Text) (low high : ℕ) → IsDefaulted cmd k d id (vp.Unsigned low high)
      → (low ≤ number_of (one_of id (rows_of (found_of m)))) × (number_of (one_of id (rows_of (found_of m))) ≤ high)
  number_in m p k d id text low high set =
      let got = default_reads cmd m p k d id (vp.Unsigned low high) set ((p.from.same_groups none_named).1 ∙ no_groups) no_globals in
      let found : one_of id (rows_of (found_of m)) ≡ Some got.0 = sym (one_text-rows (found_of m) id) ∙ got.1 in
      let Q : Option Text → Type 0 = λ o. (low ≤ number_of o) × (number_of o ≤ high) in
      subst Q (sym found) (ranged_number got.0 low high got.2)

  -- the list of arguments has a member
  first_arg : (args : List Arg) → 0 < length args → Arg
  first_arg [] lt = absurd (omega (arith, lt))
  first_arg (a ∷ args) lt = a

  pub in_range : (m : ArgMatches) → IsParsedFrom cmd m → AreInRange (rows_of (found_of m))
  in_range m p =
      let some_arg = first_arg (args_of cmd) (subst (λ n. 0 < n) (sym as_many) (omega arith)) in
      let steps = number_in m p 2 some_arg (codes "steps") (codes "1000000000") 1 1000000000000 (defaulted 2 some_arg (codes "steps") (codes "1000000000") 1 1000000000000 (rule_at 2 some_arg (omega arith)) (omega arith) refl refl refl refl) in
      let size = number_in m p 3 some_arg (codes "code") (codes "1048576") 256 67108864 (defaulted 3 some_arg (codes "code") (codes "1048576") 256 67108864 (rule_at 3 some_arg (omega arith)) (omega arith) refl refl refl refl) in
      record { steps_least = steps.0; steps_most = steps.1; size_least = size.0; size_most = size.1 }
