-- `copy_bytes` reads each byte and writes it, from the first on.
use mathlib.Core.WellFounded.InvImage
use lib.Dec.{ltb→lt, nltb→le}
use lib.WfN.{lt-wf_rel}
use Rattle.std.proofs.Common.{◌≡◌, ℕ, zero, suc, ◌+◌, ◌-◌, ◌<◌, ◌≤◌, ◌^◌, List, [], ◌∷◌, ◌++◌, length, length-take, get_or, take, refl, sym, ap, subst, ◌∙◌, lit<, w8, w64, arith}
use seplogic.Ra.Ura.{Ura}
use base.Fraction.{full_share}
use base.Fml.{Share, ffalse, fsep, fat, froom}
use base.Logic.{SProp, ent, id⊢, never_e}
use contract.Monad.{Fun, fact}
use contract.Running.{tables, tables_of}
use mir.Syntax.{ty_int}
use mir.Val.{Val, vunit, vint, vptr}
use prog.Memory.{Memory}
use prog.Routine.{Routine}
use prog.Wp.{Env, Out, Wp, WpFn, Tables, at_return, after_seq, after_block, after_turn}
use types.Logic.{Logic, sem}
use types.Kit.{⋆, Item, Sq, any_q, runs, ‵, raw, ◌⊛◌, at_ret, ◌$◌, ◌∵◌, !, qed, by, move, keep, drop, use0, use1, use2, join, split, rewrite, fsplit, fjoin, feq_i, suffices, group, done}
use types.Run.{stop, look, load, lit, bin, unit_lit, of_opd, init, assigns_last, first, blocks, skips, jumps, branches, exec, returns, enter, loops, again, Below, well_typed}
use types.ByLocal.{alloc_all, pass_all, free_all, look_at, get, through, sets, sets_last, env, holding, forget_but, take_at, give_at}
use denote.Exit.{yes}
use denote.Builtin.{u8, usize}
use denote.Index.{row, place, place_byte}
use denote.Plain.{uint_in, uint_vals, uint_Tells}
use denote.RawPtr.{Ptr, RawPtr, block_ptr, null_ptr, ptr_val, rawptr_vals, rawptr_Tells}
use denote.RattleType.{RattleType}
use denote.Signature.{plain}
use denote.Steps.{heard, nothing}
use denote.Triple.Clauses.{Clauses}
use denote.Triple.Entry.{on_entry}
use denote.Triple.Walked.{Stays, stay_dropped, walk_of, ends_at, Goes-dropped}
use Rattle.std.proofs.raw_atomic.Walks.{proved}
use Rattle.core.proofs.ptr.Rows.{one_more, take_snoc, take_all}
use Rattle.std.proofs.VecSteps.Shapes.{after}
use Rattle.lg_buf.specs.Ownership.{lie_at, is_room}
use Rattle.lg_buf.proofs.Memory.{bytes, byte, spare, behind, read_cell, unread, read_out, read_back}
use Rattle.lg_buf.specs.contracts.region.copy_bytes as f
use Rattle.lg_buf.proofs.region.copy_bytes.Statement.{statement}
use Rattle.lg_buf.proofs.region.copy_bytes.Code as code

abbrev stayed : Stays f.ended.signature.params f.ended.kept
stayed = (stay_dropped (plain (λ _. RawPtr)) yes, (stay_dropped (plain (λ _. RawPtr)) yes, (stay_dropped (plain (λ _. usize)) yes, tt)))

module _ {M : Type 1} {𝓤 : Ura M} (𝓛 : Logic 𝓤) (at_mem : Memory → SProp 𝓤) (run : Routine → Fun 𝓤) (𝓣 : Tables 𝓤 𝓛.H) where
  open 𝓛 use {H}

  abbrev held : Clauses 𝓤 f.ended
  held = f.clauses 𝓛 at_mem run

  abbrev bound : Ptr → Ptr → ℕ → Share × List ℕ × ℕ → (walk_of 𝓛 f.ended stayed held).Ghost
  bound from to n g = ((tt, tt, tt, (from, (to, (n, tt))), (rawptr_vals from, (rawptr_vals to, (uint_vals w64 n, tt)))), g)

  abbrev Goes : Ptr → Ptr → ℕ → Share × List ℕ × ℕ → SProp 𝓤
  Goes from to n g = WpFn 𝓤 H 𝓣.C 𝓣.Λ code.function (ptr_val from ∷ ptr_val to ∷ vint w64 n ∷ []) ((walk_of 𝓛 f.ended stayed held).post (bound from to n g))

  module _ (bs os bd od n : ℕ) (q : Share) (xs : List ℕ) (more : ℕ) (fits : n < 2 ^ 64) (long : length xs ≡ n) where
    abbrev Post : Val → SProp 𝓤
    Post = (walk_of 𝓛 f.ended stayed held).post (bound (block_ptr bs os) (block_ptr bd od) n (q, xs, more))

    -- how many are copied
    abbrev Copied : Type 0
    Copied = (i : ℕ) × (i ≤ n)

    abbrev Nearer : Copied → Copied → Type 0
    Nearer t u = n - t.0 < n - u.0

    exits : ent 𝓤 (⋆ 𝓛 (‵ (row u8 q xs bs os) ∷ ‵ (bytes 𝓛 bd xs od) ∷ ‵ (spare 𝓛 bd more (place 1 od (length xs))) ∷ [])) (Post vunit)
    exits =
        qed 𝓛 (‵ (row u8 q xs bs os) ∷ ‵ (bytes 𝓛 bd xs od) ∷ ‵ (spare 𝓛 bd more (place 1 od (length xs))) ∷ []) ∵ move ! (1 ∷ 2 ∷ []) $ fjoin ! $ move ! (1 ∷ 0 ∷ []) $ fjoin ! $
        suffices ! _ (ends_at 𝓛 f.ended stayed held (bound (block_ptr bs os) (block_ptr bd od) n (q, xs, more)) vunit tt (tt, (tt, (tt, tt))) (tt, (tt, (tt, tt)))) $
        feq_i ! _ (vunit ∷ []) _ refl $ nothing ! $ nothing ! $ join ! $ nothing ! $ join ! $ nothing ! $ join ! $ nothing ! $ group ! 3 $ done !

    module _ (l : ℕ → ℕ) where
      abbrev En : Env 𝓤 H
      En = env code.Mir.locals l

      -- the source; what is written; the room that is left
      abbrev Now : Copied → List (Item 𝓤)
      Now t = ‵ (row u8 q xs bs os) ∷ ‵ (bytes 𝓛 bd (take t.0 xs) od) ∷ ‵ (spare 𝓛 bd (n + more - t.0) (t.0 + od)) ∷ holding 𝓛 En ((1, vptr bs os) ∷ (2, vptr bd od) ∷ (3, vint w64 n) ∷ (4, vint w64 t.0) ∷ [])

      abbrev Turned : Copied → Out → SProp 𝓤
      Turned t = after_turn 𝓤 H (Below 𝓛 Nearer Now t) (after_block 𝓤 H (after_seq 𝓤 H (Wp 𝓤 H 𝓣.C 𝓣.Λ En code.Mir.t-3 (at_return 𝓤 H En Post)) (at_return 𝓤 H En Post)))

      turns : (t : Copied) → Sq 𝓛 (Now t) (runs 𝓣.C 𝓣.Λ En code.Mir.turn-1 (any_q (Turned t)))
      unfolding after_turn
      turns t =
          let i : ℕ = t.0 in let le = t.1 in
          sets ! (bin ! (get ! refl) (get ! refl) tt) refl (tt, tt) $ first ! $ branches ! (get ! refl)
          (λ less. let h : i < n = ltb→lt i n less in let inside : i < length xs = omega arith in let f₁ : i + 1 < 2 ^ 64 = omega arith in
          let v : ℕ = get_or xs i 0 in let m : ℕ = n + more - suc i in let one : suc m ≡ n + more - i = omega arith in
          let counted = length-take i xs in let whole : length (take i xs) ≡ i = omega arith in
          let at : i + od ≡ place 1 od (length (take i xs)) = sym (place_byte od (length (take i xs)) ∙ ap (λ (k : ℕ). k + od) whole) in
          let on : i + od + 1 ≡ suc i + od = omega arith in
          skips ! $ exec ! 𝓣.C 𝓣.Λ En (after 2 code.Mir.turn-1) (any_q (Turned t)) $ first ! $ blocks ! $
          sets ! (bin ! (get ! refl) (get ! refl) tt) refl (tt, tt) $
          use1 𝓛 (‵ (read_cell 𝓛 bs q xs i os) ⊛ ‵ (unread 𝓛 bs q xs i os)) (read_out 𝓛 bs q xs i os inside) $ split ! $ well_typed ! (λ good.
          sets ! (of_opd ! (load ! (through ! refl (stop !)) (look ! 0 refl))) refl good $
          sets ! (bin ! (get ! refl) (get ! refl) tt) refl (tt, tt) $ move ! (3 ∷ []) $
          rewrite ! 0 (λ (k : ℕ). ‵ (spare 𝓛 bd k (i + od))) (sym one) refl $
          use1 𝓛 (‵ (froom (ty_int w8) bd (i + od)) ⊛ ‵ (spare 𝓛 bd m (i + od + 1))) (𝓛.laws.room_uncons (ty_int w8) m bd (i + od)) $ split ! $
          assigns_last ! (of_opd ! (get ! refl)) (through ! refl (stop !)) (init ! 0 refl good) $
          exec ! 𝓣.C 𝓣.Λ En (after 3 code.Mir.turn-1) (any_q (Turned t)) $
          sets_last ! (bin ! (get ! refl) (lit ! tt) (record { fits = f₁ })) refl (tt, record { fits = f₁ }) $
          -- [the byte; the room after it; the byte that was read; the others; what was written]
          use1 𝓛 (‵ (byte 𝓛 bd v (i + od))) (uint_in 𝓛 full_share w8 v bd (i + od)) $ rewrite ! 0 (λ (k : ℕ). ‵ (byte 𝓛 bd v k)) at refl $ move ! (4 ∷ 0 ∷ []) $
          use2 𝓛 (‵ (bytes 𝓛 bd (take i xs ++ v ∷ []) od)) (behind 𝓛 bd (take i xs) v od) $
          rewrite ! 0 (λ (zs : List ℕ). ‵ (bytes 𝓛 bd zs od)) (sym (take_snoc xs i 0 inside)) refl $ move ! (2 ∷ 3 ∷ []) $
          use2 𝓛 (‵ (row u8 q xs bs os)) (read_back 𝓛 bs q xs i os inside) $
          rewrite ! 2 (λ (k : ℕ). ‵ (spare 𝓛 bd m k)) on refl $
          forget_but ! En (1 ∷ 2 ∷ 3 ∷ 4 ∷ []) refl $ take_at ! 4 $ rewrite ! 0 (λ (k : ℕ). ‵ (fat full_share (ty_int w64) (l 4) zero (vint w64 k))) (one_more i) refl $ give_at ! 4 $
          again ! Nearer Now t (suc i, omega arith) (omega arith)))
          (λ over. let ge : n ≤ i = nltb→le i n over in let all : take i xs ≡ xs = subst (λ (k : ℕ). take k xs ≡ xs) (omega arith) (take_all xs) in
          let left : n + more - i ≡ more = omega arith in let ends = place_byte od (length xs) in let end : i + od ≡ place 1 od (length xs) = omega arith in
          jumps ! $ exec ! 𝓣.C 𝓣.Λ En code.Mir.t-3 (at_ret En Post) $ rewrite ! 1 (λ (zs : List ℕ). ‵ (bytes 𝓛 bd zs od)) all refl $
          rewrite ! 2 (λ (k : ℕ). ‵ (spare 𝓛 bd k (i + od))) left refl $ rewrite ! 2 (λ (k : ℕ). ‵ (spare 𝓛 bd more k)) end refl $
          sets ! (of_opd ! (unit_lit !)) refl (tt, tt) $ returns ! (look_at ! 0 refl) $ free_all ! refl $ by ! exits)

    runs_by : ent 𝓤 (sem 𝓛 (fsep (lie_at q (block_ptr bs os) xs) (is_room (block_ptr bd od) (n + more)))) (Goes (block_ptr bs os) (block_ptr bd od) n (q, xs, more))
    runs_by =
        let to : od ≡ 0 + od = omega arith in let all : n + more ≡ n + more - 0 = omega arith in
        qed 𝓛 (‵ (fsep (row u8 q xs bs os) (spare 𝓛 bd (n + more) od)) ∷ []) ∵ fsplit ! $
        rewrite ! 1 (λ (k : ℕ). ‵ (spare 𝓛 bd (n + more) k)) to refl $ rewrite ! 1 (λ (k : ℕ). ‵ (spare 𝓛 bd k (0 + od))) all refl $ use0 𝓛 (‵ (bytes 𝓛 bd [] od)) (id⊢ 𝓤 _) $ move ! (1 ∷ 0 ∷ []) $
        enter ! 𝓣.C 𝓣.Λ code.function (vptr bs os ∷ vptr bd od ∷ vint w64 n ∷ []) _ $ alloc_all ! (λ l. pass_all ! refl ((tt, tt), ((tt, tt), ((tt, record { fits = fits }), tt))) $
        sets ! (of_opd ! (lit ! tt)) refl (tt, record { fits = lit< tt }) $ forget_but ! (En l) (1 ∷ 2 ∷ 3 ∷ 4 ∷ []) refl $
        first ! $ blocks ! $ loops ! 𝓣 Nearer (InvImage.wf (λ (t : Copied). n - t.0) lt-wf_rel.wf) (Now l) (turns l) (0, omega arith))

  walk : (from to : Ptr) (n : ℕ) (g : Share × List ℕ × ℕ) → n < 2 ^ 64 → length g.1 ≡ n → ent 𝓤 (sem 𝓛 (fsep (lie_at g.0 from g.1) (is_room to (n + g.2)))) (Goes from to n g)
  walk (block_ptr bs os) (block_ptr bd od) n g fits long = runs_by bs os bd od n g.0 g.1 g.2 fits long
  walk (block_ptr bs os) null_ptr n g fits long = qed 𝓛 (‵ (fsep (lie_at g.0 (block_ptr bs os) g.1) ffalse) ∷ []) ∵ fsplit ! $ keep ! (1 ∷ []) $ by ! (never_e 𝓤 _)
  walk null_ptr to n g fits long = qed 𝓛 (‵ (fsep ffalse (is_room to (n + g.2))) ∷ []) ∵ fsplit ! $ keep ! (0 ∷ []) $ by ! (never_e 𝓤 _)

pub copy_bytes_spec : {M : Type 1} → statement M
unfolding tables_of
copy_bytes_spec 𝓤 𝓛 𝓜 𝓡 wired =
    let c = f.clauses 𝓛 𝓜.mem 𝓡.returns in let gone = λ (Y : RattleType). Goes-dropped 𝓛 0 (plain (λ _. Y)) yes in
    proved 𝓛 f.ended stayed c 𝓜 𝓡 (gone RawPtr (λ κs x w. refl), (gone RawPtr (λ κs x w. refl), (gone usize (λ κs x w. refl), tt)))
    f.Key.name code.function (code.unfolded 𝓤 𝓛.H 𝓜 𝓡 wired)
    (λ κs. (rawptr_vals, (rawptr_vals, (uint_vals w64, tt)))) (λ κs. (rawptr_Tells, (rawptr_Tells, (uint_Tells w64, tt)))) (λ κs qs bounds a g are.
    let Said : Type 0 = length g.1 ≡ a.1.1.0 in
    qed 𝓛 (raw (on_entry 𝓛 f.signature κs qs a (bound 𝓛 𝓜.mem 𝓡.returns (tables_of 𝓤 𝓛.H 𝓜 (tables 𝓤 𝓛.H 𝓜 𝓡 𝓡.env)) a.0 a.1.0 a.1.1.0 g).0.4) ∷ (raw (fact 𝓤 Said) ⊛ ‵ (fsep (lie_at g.0 a.0 g.1) (is_room a.1.0 (a.1.1.0 + g.2)))) ∷ []) ∵ drop ! $ split ! $
    heard ! Said (λ said. by ! (walk 𝓛 𝓜.mem 𝓡.returns (tables_of 𝓤 𝓛.H 𝓜 (tables 𝓤 𝓛.H 𝓜 𝓡 𝓡.env)) a.0 a.1.0 a.1.1.0 g are.1.1.0.1 said)))
