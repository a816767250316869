-- The operands of an instruction, one after another.
use Rattle.std.proofs.Common.{◌≡◌, ◌≢◌, ℕ, ◌+◌, ◌<◌, ◌≤◌, Bool, true, false, not, ◌&&◌, List, [], ◌∷◌, ◌++◌, length, length-append, get_or, take, drop, Ok, Err, refl, sym, ap, subst, ◌∙◌, add-one, arith}
use Rattle.std.proofs.Math.Seq.{drop-cons, take-suc}
use Rattle.std.proofs.lemmas.Bool.{false≢true}
use Rattle.std.proofs.lemmas.List.{drop_all}
use Rattle.std.proofs.lemmas.Slice.Eq.{bytes_eq-Decides}
use Rattle.lg_base.specs.declared.refusal.Refusal.{Refusal}
use Rattle.lg_lex.specs.declared.token.Token.{Token}
use Rattle.lg_op.specs.Forms.{admits, admit}
use Rattle.lg_op.specs.Nodes.{IsApart}
use Rattle.lg_op.specs.declared.form.Form.{Form}
use Rattle.lg_op.specs.declared.op.Op.{Op}
use Rattle.lg_op.specs.declared.op.Op.TheVariants.{Binary, Wide, Branch, BranchSum, Control, Unary, Plain, Load, Store, Retval, Getarg}
use Rattle.lg_op.specs.declared.op.PlainOp.TheVariants as plain
use Rattle.lg_op.specs.declared.operand.Operand.{Operand}
use Rattle.lg_op.specs.declared.operand.Operand.TheVariants as operand
use Rattle.lg_node.specs.Nodes.{with_node}
use Rattle.lg_operand.specs.Operands.{differ, stays_apart}
use Rattle.lg_base.specs.Refusals.{◌>>=◌}
use Rattle.lg_tst.specs.Units.{State, all_operands, wanted, behind, operand_of, noted, operands, most_nodes, written_forms}
use Rattle.lg_operand.specs.Registers.{register_word}

both_true : (a b : Bool) → (a && b) ≡ true → (a ≡ true) × (b ≡ true)
both_true true b e = (refl, e)
both_true false b e = absurd (false≢true e)

admit_more : (fs : List Form) (xs : List Operand) (f : Form) (x : Operand) → admit fs xs ≡ true → admits f x ≡ true → admit (fs ++ f ∷ []) (xs ++ x ∷ []) ≡ true
admit_more [] [] f x all one = ap (λ b. b && true) one
admit_more [] (y ∷ ys) f x all one = absurd (false≢true all)
admit_more (g ∷ gs) [] f x all one = absurd (false≢true all)
admit_more (g ∷ gs) (y ∷ ys) f x all one =
    let two = both_true (admits g y) (admit gs ys) all in
    ap (λ b. b && admit (gs ++ f ∷ []) (ys ++ x ∷ [])) two.0 ∙ admit_more gs ys f x two.1 one

differ_apart : (a x : Operand) → differ a x ≡ true → a ≢ x
differ_apart (operand.Reg a) (operand.Reg b) e same =
    let one : a ≡ b = cc in
    let twice = (bytes_eq-Decides (register_word a) (register_word b)).1 (ap register_word one) in
    false≢true (sym (ap not twice) ∙ e)
differ_apart (operand.Reg a) _ e same = cc
differ_apart other x e same = false≢true e

apart_more : (op : Op) (done : List Operand) (x : Operand) → IsApart op done → stays_apart op done x ≡ true → IsApart op (done ++ x ∷ [])
apart_more (Wide op last) [] x apart e = tt
apart_more (Wide op last) (a ∷ []) x apart e = differ_apart a x e
apart_more (Wide op last) (a ∷ b ∷ more) x apart e = apart
apart_more (Plain plain.VaArg) [] x apart e = tt
apart_more (Plain plain.VaArg) (a ∷ []) x apart e = differ_apart a x e
apart_more (Plain plain.VaArg) (a ∷ b ∷ more) x apart e = apart
apart_more other done x apart e = tt

-- this many operands of an instruction have been read, and the others decide what all of them give
pub record IsRead (op : Op) (line i : ℕ) (done : List Operand) (s first : State) : Type 0 where
  pub whole : operands op line (drop i (written_forms op)) done s ≡ operands op line (written_forms op) [] first
  pub room : length s.list.nodes < most_nodes
  pub count : length done ≡ i
  pub form : admit (take i (written_forms op)) done ≡ true
  pub apart : IsApart op done

module _ (op : Op) (line i : ℕ) (done : List Operand) (s first : State) (read : IsRead op line i done s first) where
  module _ (d : Form) (within : i < length (written_forms op)) where
    abbrev form : Form
    form = get_or (written_forms op) i d

    here : operands op line (written_forms op) [] first ≡ operands op line (form ∷ drop (i + 1) (written_forms op)) done s
    here = sym read.whole ∙ ap (λ fs. operands op line fs done s) (rw add-one (drop-cons (written_forms op) i d within))

    -- no token is there
    pub not_wanted : (refusal : Refusal) → wanted line s ≡ Err refusal → operands op line (written_forms op) [] first ≡ Err refusal
    unfolding operands
    not_wanted refusal e = here ∙ ap (λ r. r >>= λ t. operand_of (behind s) op form done t >>= λ x. operands op line (drop (i + 1) (written_forms op)) (done ++ x ∷ []) (noted (behind s) form done t)) e

    module _ (t : Token) (is : wanted line s ≡ Ok t) where
      there : operands op line (written_forms op) [] first ≡ (operand_of (behind s) op form done t >>= λ x. operands op line (drop (i + 1) (written_forms op)) (done ++ x ∷ []) (noted (behind s) form done t))
      unfolding operands
      there = here ∙ ap (λ r. r >>= λ t. operand_of (behind s) op form done t >>= λ x. operands op line (drop (i + 1) (written_forms op)) (done ++ x ∷ []) (noted (behind s) form done t)) is

      not_operand : (refusal : Refusal) → operand_of (behind s) op form done t ≡ Err refusal → operands op line (written_forms op) [] first ≡ Err refusal
      not_operand refusal e = there ∙ ap (λ r. r >>= λ x. operands op line (drop (i + 1) (written_forms op)) (done ++ x ∷ []) (noted (behind s) form done t)) e

      operand_read : (x : Operand) (new : State) → operand_of (behind s) op form done t ≡ Ok x → new ≡ noted (behind s) form done t → admits form x ≡ true → stays_apart op done x ≡ true → length new.list.nodes ≡ length s.list.nodes → IsRead op line (i + 1) (done ++ x ∷ []) new first
      operand_read x new e same admitted apart kept =
          let more = length-append done (x ∷ []) in
          record {
            whole = ap (λ u. operands op line (drop (i + 1) (written_forms op)) (done ++ x ∷ []) u) same ∙ sym (there ∙ ap (λ r. r >>= λ x. operands op line (drop (i + 1) (written_forms op)) (done ++ x ∷ []) (noted (behind s) form done t)) e);
            room = omega (arith, kept, read.room);
            count = more ∙ ap (λ n. n + 1) read.count;
            form = rw (add-one i, take-suc (written_forms op) i d within) (admit_more (take i (written_forms op)) done form x read.form admitted);
            apart = apart_more op done x read.apart apart;
          }

      -- the forms, the operands and the state as the code has them
      module _ (fs : List Form) (ds : List Operand) (mid : State) (as_forms : fs ≡ written_forms op) (as_done : ds ≡ done) (as_state : mid ≡ behind s) where
        here_is : {A : Type 0} (g : State → Form → List Operand → A) → g mid (get_or fs i d) ds ≡ g (behind s) form done
        here_is g = ap (λ f. g mid (get_or f i d) ds) as_forms ∙ ap (λ x. g mid form x) as_done ∙ ap (λ u. g u form done) as_state

        -- the token is no such operand
        pub no_operand : (refusal : Refusal) → operand_of mid op (get_or fs i d) ds t ≡ Err refusal → operands op line (written_forms op) [] first ≡ Err refusal
        no_operand refusal e = not_operand refusal (sym (here_is (λ u f x. operand_of u op f x t)) ∙ e)

        -- one operand more
        pub one_read : (x : Operand) (new : State) (all : List Operand) → all ≡ ds ++ x ∷ [] → operand_of mid op (get_or fs i d) ds t ≡ Ok x → new ≡ noted mid (get_or fs i d) ds t → admits (get_or fs i d) x ≡ true → stays_apart op ds x ≡ true → length new.list.nodes ≡ length mid.list.nodes → IsRead op line (i + 1) all new first
        one_read x new all as_all e same admitted apart kept =
            subst (λ xs. IsRead op line (i + 1) xs new first) (sym (as_all ∙ ap (λ xs. xs ++ x ∷ []) as_done))
            (operand_read x new
            (sym (here_is (λ u f x. operand_of u op f x t)) ∙ e)
            (same ∙ here_is (λ u f x. noted u f x t))
            (sym (ap (λ f. admits (get_or f i d) x) as_forms) ∙ admitted)
            (sym (ap (λ ds. stays_apart op ds x) as_done) ∙ apart)
            (kept ∙ ap (λ (u : State). length u.list.nodes) as_state))

  pub all_read : length (written_forms op) ≤ i → operands op line (written_forms op) [] first ≡ Ok record s { list = with_node s.list (record { op = op; operands = all_operands op done s.names; line = line }) }
  unfolding operands
  all_read past = sym read.whole ∙ ap (λ fs. operands op line fs done s) (drop_all i (written_forms op) past)
