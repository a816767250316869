-- `get` reads one byte, and leaves all as it was.
use Rattle.lg_buf.proofs.Steps.{◌+◌, ◌<◌, List, [], ◌∷◌, length, get_or, refl, sym, ap, ◌∙◌, w8, w64, proved, after, full_share, id⊢, ftrue, flft, named, Val, vint, fact, tables, ‵, raw, ◌⊛◌, at_ret, ◌$◌, ◌∵◌, !, qed, done, move, keep, use1, use2, split, join, fsplit, fsplit3, fjoin, rewrite, suffices, frame, group, whole, sub, look_in, look, enter, of_opd, bin, load, stop, fld, first, blocks, exec, returns, well_typed, alloc_all, pass_all, free_all, look_at, get, through, sets, sets_last, env, u8, usize, yes, shows, cell_at, uint_vals, uint_Tells, uint_Makes, Ptr, in_a_block, owns, MutRef, mut_vals, mut_Tells, plain, nothing, owned, opens, closes, peeks, heard, Stays, walk_of, says, stay_dropped, Goes-dropped, stay_ref, Goes-ref, ends_at}
use Rattle.lg_buf.proofs.Memory.{bytes, cell, rest, cell_out, cell_back}
use Rattle.lg_buf.specs.Ownership.{lie_before_room}
use Rattle.lg_buf.specs.contracts.region.Region.get as f
use Rattle.lg_buf.proofs.region.Region.get.Statement.{statement}
use Rattle.lg_buf.proofs.region.Region.get.Code as code
use Rattle.lg_buf.specs.contracts.region.Region.{the_row as R}
use Rattle.lg_buf.proofs.region.Region.TheLaws.{lowers}

abbrev stayed : Stays f.ended.signature.params f.ended.kept
stayed = (stay_ref (0 ∷ []) tt (plain (λ _. R)), (stay_dropped (plain (λ _. usize)) yes, tt))

pub get_spec : {M : Type 1} → statement M
get_spec 𝓤 𝓛 𝓜 𝓡 wired =
    let c = f.clauses 𝓛 𝓜.mem 𝓡.returns in let W = walk_of 𝓛 f.ended stayed c in let 𝓣 = tables 𝓤 𝓛.H 𝓜 𝓡 𝓡.env in
    proved 𝓛 f.ended stayed c 𝓜 𝓡 (Goes-ref 𝓛 1 0 tt (plain (λ _. R)), (Goes-dropped 𝓛 1 (plain (λ _. usize)) yes (λ κs x w. refl), tt))
    f.Key.name code.function (code.unfolded 𝓤 𝓛.H 𝓜 𝓡 wired)
    (λ κs. (mut_vals, (uint_vals w64, tt))) (λ κs. (mut_Tells (named 0) κs.0 R, (uint_Tells w64, tt))) (λ κs qs bounds a _ are.
    let rb = a.0.ref_ptr.0 in let ro = a.0.ref_ptr.1 in let h = a.0.now in let i = a.1.0 in let xs = h.bytes in let n = h.spare in let x = get_or xs i 0 in
    let y : W.Ghost = ((κs, qs, bounds, a, (mut_vals a.0, (uint_vals w64 i, tt))), tt) in
    qed 𝓛 (((‵ (flft κs.0 qs.0) ⊛ ‵ ftrue) ⊛ ‵ (owns (MutRef (named 0) κs.0 R ∷ usize ∷ []) a y.0.4)) ∷ raw (fact 𝓤 (i < length xs)) ∷ []) ∵
    move ! (1 ∷ []) $ heard ! _ (λ inside. split ! $ split ! $ move ! (2 ∷ []) $ fsplit ! $ keep ! (0 ∷ 2 ∷ []) $
    enter ! _ _ _ _ _ $ alloc_all ! (λ l. pass_all ! refl ((tt, tt), ((tt, record { fits = are.1.0.1 }), tt)) $
    fsplit3 ! $ move ! (1 ∷ 2 ∷ 3 ∷ []) $ opens ! tt R rb ro (λ us.
    move ! (1 ∷ []) $ peeks ! R _ (shows 𝓛 R) h us (λ is. fsplit ! $ move ! (1 ∷ []) $
    in_a_block ! h.ptr (λ p. lie_before_room p xs n) (id⊢ 𝓤 _) (λ b o e. fsplit ! $
    let word = lowers.val_is h us is ∙ ap (λ (p : Ptr). lowers.lowered (record h { ptr = p }) ∷ []) e in
    let Cell = λ (ws : List Val). ‵ (cell_at full_share R.mir ws rb ro) in
    rewrite ! 3 Cell word refl $
    use1 𝓛 (‵ (cell 𝓛 b x (i + o)) ⊛ ‵ (rest 𝓛 b xs i o)) (cell_out 𝓛 b xs i o inside) $ split ! $ well_typed ! (λ good.
    first ! $ blocks ! $
    sets ! (of_opd ! (load ! (through ! refl (fld ! refl (stop !))) (look_in ! 4 (sub ! 0 refl (whole !))))) refl (tt, tt) $
    sets ! (bin ! (get ! refl) (get ! refl) tt) refl (tt, tt) $
    sets_last ! (of_opd ! (load ! (through ! refl (stop !)) (look ! 0 refl))) refl good $
    exec ! 𝓣.C 𝓣.Λ (env code.Mir.locals l) (after 1 (code.function).body) (at_ret _ (W.post y)) $
    sets ! (of_opd ! (get ! refl)) refl good $
    use2 𝓛 (‵ (bytes 𝓛 b xs o)) (cell_back 𝓛 b xs i o inside) $ fjoin ! $
    rewrite ! 0 (λ (p : Ptr). ‵ (lie_before_room p xs n)) (sym e) refl $ rewrite ! 2 Cell (sym word) refl $
    move ! (1 ∷ 0 ∷ []) $ fjoin ! $ move ! (1 ∷ 0 ∷ []) $ closes ! tt R h us rb ro $
    returns ! (look_at ! 0 refl) $ free_all ! refl $ move ! (3 ∷ []) $
    suffices ! _ (ends_at 𝓛 f.ended stayed c y (vint w8 x) x (h, (tt, tt)) (tt, (tt, tt))) $ says ! (refl, refl) $
    group ! 3 $ nothing ! $ nothing ! $ join ! $ move ! (1 ∷ 0 ∷ []) $ join ! $ nothing ! $ move ! (2 ∷ 0 ∷ []) $ join ! $ frame ! $ frame ! $
    owned ! u8 _ (uint_Makes 𝓛 w8) x _ (refl, good.1.fits) $ done !)))))))
