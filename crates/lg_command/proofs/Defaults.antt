-- What a parse finds of an argument that has a default and takes one value.
use Rattle.std.proofs.Common.{zero, suc, ◌≡◌, ◌⊎◌, ◌∙◌, ◌<◌, ◌≤◌, ap, ℕ, Bool, true, false, List, [], ◌∷◌, length, Some, None, refl, sym, subst, inl, inr, arith, codes}
use Rattle.std.specs.Prelude.{slice_get, find}
use Rattle.std.specs.List.{All, slice_index_or}
use Rattle.std.specs.Str.{bytes_eq}
use Rattle.std.specs.Borrow.{Bor}
use Rattle.std.proofs.lemmas.List.Elements.{All-get_or, All-drop}
use Rattle.std.proofs.lemmas.Slice.Eq.{bytes_eq-Decides}
use Rattle.clap.specs.Built.{IsParsedFrom, SameRules}
use Rattle.clap.specs.Facts.{Entry, EntryPasses, HasId, HasIn, PassesArg, WantsDefault, args_of, groups_of, least_values, parser_of, parser_of_value}
use Rattle.clap.specs.Matches.{found_of, one_text}
use Rattle.clap.specs.Values.{Accepts, read_as, reading_of}
use Rattle.clap.specs.declared.builder.action.ArgAction.TheVariants.{Count, Set}
use Rattle.clap.specs.declared.builder.arg.Arg.{Arg}
use Rattle.clap.specs.declared.builder.command.Command.{Command}
use Rattle.clap.specs.declared.builder.command.Command.TheViews.{out-Command}
use Rattle.clap.specs.declared.builder.value_parser.ValueParser.{ValueParser}
use Rattle.clap.specs.declared.parser.matches.ArgMatches.{ArgMatches}
use Rattle.clap.proofs.CallerLemmas.{default_present, same_rules_by_id}

-- an id that is among the entries has a first entry, and what holds of each holds of it
entry_in : (P : Entry → Type 0) (xs : List Entry) (id : List ℕ) → All P xs → HasIn xs id
    → (e : Entry) × (find (λ e. bytes_eq e.0.now id) xs ≡ Some e) × (bytes_eq e.0.now id ≡ true) × P e
entry_in P [] id all has = absurd (omega (arith, has.1))
entry_in P (x ∷ xs) id all has = go (bytes_eq x.0.now id) refl has (λ rest. entry_in P xs id (All-drop P 1 (x ∷ xs) all) rest)
  where
    later : (i : ℕ) → i < length (x ∷ xs) → ((d : Entry) → bytes_eq (slice_index_or (x ∷ xs) i d).0.now id ≡ true) → bytes_eq x.0.now id ≡ false → HasIn xs id
    later zero lt at other = let bad : true ≡ false = sym (at x) ∙ other in cc
    later (suc i) lt at other = (i, omega (arith, lt), at)

    go : (b : Bool) → bytes_eq x.0.now id ≡ b → HasIn (x ∷ xs) id
        → (HasIn xs id → (e : Entry) × (find (λ e. bytes_eq e.0.now id) xs ≡ Some e) × (bytes_eq e.0.now id ≡ true) × P e)
        → (e : Entry) × (find (λ e. bytes_eq e.0.now id) (x ∷ xs) ≡ Some e) × (bytes_eq e.0.now id ≡ true) × P e
    go true is h rec = (x, rw is refl, is, All-get_or P (x ∷ xs) 0 x (omega arith) all)
    go false is h rec =
        let rest = rec (later h.0 h.1 h.2 is) in
        (rest.0, rw is rest.1, rest.2, rest.3)

-- a list of values with one in it has a first one, and what holds of each holds of it
first_in : (P : Bor (List ℕ) → Type 0) (vs : List (Bor (List ℕ))) → 0 < length vs → All P vs → (v : Bor (List ℕ)) × (slice_get vs 0 ≡ Some v) × P v
first_in P [] lt all = absurd (omega (arith, lt))
first_in P (v ∷ vs) lt all = (v, refl, All-get_or P (v ∷ vs) 0 v (omega arith) all)

-- what is asked of the caller's argument
pub record IsDefaulted (old : Command) (k : ℕ) (d : Arg) (id : List ℕ) (parser : ValueParser) : Type 0 where
  pub among : k < length (args_of old)
  pub named : (slice_index_or (args_of old) k d).id.now ≡ id
  pub default : WantsDefault (slice_index_or (args_of old) k d)
  pub action : (slice_index_or (args_of old) k d).action ≡ Some Set
  pub delim : (slice_index_or (args_of old) k d).val_delim ≡ None
  pub least : 1 ≤ least_values (slice_index_or (args_of old) k d)
  pub parsed : (slice_index_or (args_of old) k d).value_parser ≡ Some parser
  pub cased : (slice_index_or (args_of old) k d).ignore_case ≡ false
  pub alone : (j : ℕ) (e : Arg) → j < length (args_of old) → bytes_eq (slice_index_or (args_of old) j e).id.now id ≡ true → j ≡ k
  pub some : id ≡ [] → ⊥
  pub own : (id ≡ codes "help") ⊎ (id ≡ codes "version") → ⊥

module _ (old : Command) (m : ArgMatches) (p : IsParsedFrom old m) (k : ℕ) (d : Arg) (id : List ℕ) (parser : ValueParser) (is : IsDefaulted old k d id parser) where
  -- an argument of the built command with this id has the rules of the caller's
  rules_at : (j : ℕ) (x : Arg) → j < length (args_of p.built) → slice_index_or (args_of p.built) j x ≡ x → bytes_eq x.id.now id ≡ true → SameRules (slice_index_or (args_of old) k d) x
  rules_at j x high at same =
      same_rules_by_id old m p k d is.among (λ i e lt eq. is.alone i e lt (rw (← is.named) eq)) (λ auto. is.own (rw (← is.named) auto)) j x high at (rw is.named same)

  accepted : (value : List ℕ) → PassesArg p.built id value → Accepts false parser value
  accepted value pass =
      let rules = rules_at pass.0 pass.1 pass.2 pass.3 pass.4.0 in
      let same : parser_of pass.1 ≡ parser = ap parser_of_value (rules.parser parser is.parsed) in
      subst (λ q. Accepts false q value) same (subst (λ b. Accepts b (parser_of pass.1) value) (rules.ignore_case ∙ is.cased) pass.4.1)

  filled : (e : Entry) → groups_of p.built ≡ [] → e.0.now ≡ id → EntryPasses p.built e → (e.1.is_group ≡ true → ⊥) × (0 < length e.1.vals.items)
  filled e none key pass =
      let no_group : e.1.is_group ≡ true → ⊥ = λ g. elim (pass.3 g) [
        | inl empty ↦ is.some (sym key ∙ empty)
        | inr has ↦
            let bad : 0 < 0 = rw none at has in
            absurd (omega arith)
      ] in (
        no_group,
        elim pass.1 [
          | inl h ↦ absurd (no_group h.0)
          | inr (inl v) ↦ v
          | inr (inr (inl h)) ↦
              let any = h.1 in
              let rules = rules_at any.0 any.1 any.2 any.3 (rw (← key) any.4.0) in
              let set : any.1.action ≡ Some Set = rules.action Set is.action in
              let bad : Set ≡ Count = rw set at any.4.1 in
              cc
          | inr (inr (inr h)) ↦
              let rules = rules_at h.0 h.1 h.2 h.3 (rw (← key) h.4.0) in
              elim h.4.1 [
                | inl none ↦
                    let one = rules.least is.action is.least in
                    absurd (omega arith)
                | inr has ↦
                    let bad : false ≡ true = rw (rules.val_delim, is.delim) at has in
                    cc
              ]
        ],
      )

  -- so the text that is read of it passes its parser
  pub default_reads : groups_of p.built ≡ [] → (out-Command old).has_globals ≡ false → (text : List ℕ) × (one_text (found_of m) id ≡ Some (read_as (reading_of parser) text)) × Accepts false parser text
  default_reads none globals =
      let parsed = p.parsed (p.from.globals ∙ globals) in
      let has : HasId (found_of m) id = subst (HasId (found_of m)) is.named (default_present old m p globals k d is.among is.default) in
      let got = entry_in (EntryPasses p.built) (found_of m).entries.items id parsed.values has in
      let key = (bytes_eq-Decides got.0.0.now id).0 got.2 in
      let full = filled got.0 none key got.3 in
      let all : All (λ v. PassesArg p.built id v.now) got.0.1.vals.items = elim got.3.0 [
        | inl g ↦ absurd (full.0 g)
        | inr vals ↦ subst (λ w. All (λ v. PassesArg p.built w v.now) got.0.1.vals.items) key vals
      ] in
      let how : got.0.1.reading ≡ reading_of parser = elim got.3.4 [
        | inl g ↦ absurd (full.0 g)
        | inr h ↦
            let rules = rules_at h.0 h.1 h.2 h.3 (rw (← key) h.4.0) in
            sym h.4.1 ∙ ap (λ q. reading_of (parser_of_value q)) (rules.parser parser is.parsed)
      ] in
      let first = first_in (λ v. PassesArg p.built id v.now) got.0.1.vals.items full.1 all in
      (first.0.now, rw (got.1, first.1, how) refl, accepted first.0.now first.2)
