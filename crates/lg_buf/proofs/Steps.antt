-- What the walks cite.
pub use Rattle.std.proofs.Common.{◌≡◌, ℕ, zero, suc, ◌+◌, ◌-◌, ◌<◌, ◌≤◌, ◌^◌, List, [], ◌∷◌, ◌++◌, length, get_or, set, length-set, length-append, refl, sym, ap, subst, ◌∙◌, lit<, w8, w64, MutBor, arith}
pub use Rattle.std.proofs.raw_atomic.Walks.{proved, proved_at, leaves}
pub use Rattle.std.proofs.VecSteps.Shapes.{after}
pub use base.Fraction.{full_share}
pub use base.Logic.{id⊢}
pub use base.Fml.{ftrue, fat, froom, flft}
pub use mir.Syntax.{ty_int, named}
pub use mir.Val.{Val, vunit, vint}
pub use contract.Monad.{fact}
pub use contract.Running.{tables}
pub use types.Kit.{‵, raw, ◌⊛◌, at_ret, ◌$◌, ◌∵◌, !, qed, by, done, move, keep, drop, use1, use2, split, join, fsplit, fsplit3, fjoin, feq_i, rewrite, suffices, frame, group}
pub use types.Part.{whole, sub, look_in}
pub use types.Run.{enter, of_opd, lit, unit_lit, bin, load, look, store, init, stop, fld, hop, assigns_last, first, blocks, exec, returns, well_typed}
pub use types.ByLocal.{alloc_all, pass_all, free_all, look_at, get, through, sets, sets_last, env}
pub use denote.Builtin.{u8, usize}
pub use denote.Exit.{yes}
pub use denote.Laws.{shows}
pub use denote.Memory.{cell_at, part_at, shares}
pub use denote.Plain.{uint_in, uint_out, uint_Makes, uint_vals, uint_Tells}
pub use denote.RawPtr.{Ptr, block_ptr, in_a_block}
pub use denote.RattleType.{owns}
pub use denote.Ref.{MutRef, mut_vals, mut_Tells}
pub use denote.Index.{row, others, place, place_byte}
pub use denote.Signature.{plain}
pub use denote.Steps.{nothing, owned, opens, closes, peeks, heard}
pub use denote.Triple.Walked.{Stays, walk_of, says, stay_dropped, Goes-dropped, stay_ref, Goes-ref, ends_at}
