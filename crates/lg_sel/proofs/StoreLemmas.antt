-- How many of some instructions store, and how many of those of a node may.
use Rattle.std.proofs.Common.{◌≡◌, ℕ, suc, ◌+◌, ◌≤◌, Bool, true, false, List, [], ◌∷◌, ◌++◌, refl, arith, length}
use Rattle.std.specs.Prelude.{cond, count_by, if◌then◌else◌}
use Rattle.std.proofs.lemmas.List.Recursion.{is_count_by}
use Rattle.lg_base.specs.declared.target.Target.{Target}
use Rattle.lg_op.specs.declared.op.Op.{Op}
use Rattle.lg_sel.specs.Control.Stores.{stores_below}
use Rattle.lg_sel.proofs.OfControl.StoreLemmas.{stores-long}
use Rattle.lg_sel.specs.Stores.{own_stores}
use Rattle.lg_temp.specs.Chosen.{spills}
use Rattle.lg_temp.specs.declared.choice.Choice.{Choice}

module _ {I : Type 0} (is_store : I → Bool) where
  abbrev pub stores_among : List I → ℕ
  stores_among [] = 0
  stores_among (i ∷ is) = cond (is_store i) (1 + stores_among is) (stores_among is)

  pub count-is : (is : List I) → stores_among is ≡ count_by is_store is
  count-is = is_count_by stores_among is_store refl (λ i is. refl)

  pub among-append : (is js : List I) → stores_among (is ++ js) ≡ stores_among is + stores_among js
  among-append [] js = omega arith
  among-append (i ∷ is) js = more (is_store i) (stores_among (is ++ js)) (stores_among is) (stores_among js) (among-append is js)
    where
      more : (b : Bool) (k m n : ℕ) → k ≡ m + n → cond b (1 + k) k ≡ cond b (1 + m) m + n
      more true k m n h = omega (arith, h)
      more false k m n h = h

  pub among-length : (is : List I) → stores_among is ≤ length is
  among-length [] = omega arith
  among-length (i ∷ is) = more (is_store i) (stores_among is) (length is) (among-length is)
    where
      more : (b : Bool) (k m : ℕ) → k ≤ m → cond b (1 + k) k ≤ suc m
      more true k m h = omega (arith, h)
      more false k m h = omega (arith, h)

  -- none of them stores
  abbrev pub NoneStores : List I → Type 0
  NoneStores is = stores_among is ≡ 0

  pub none-append : (is js : List I) → NoneStores is → NoneStores js → NoneStores (is ++ js)
  none-append is js a b = let h = among-append is js in omega (arith, h, a, b)

  -- registers that are stored in front of these
  pub among-stores : (store : ℕ → ℕ → I) (rs : List ℕ) (k : ℕ) (rest : List I) → NoneStores rest → stores_among (stores_below store rs k ++ rest) ≤ length rs
  among-stores store rs k rest none =
      let both = among-append (stores_below store rs k) rest in
      let most = among-length (stores_below store rs k) in
      let long = stores-long store rs k in omega (arith, both, most, long, none)

  pub none-if : (b : Bool) (is js : List I) → NoneStores is → NoneStores js → NoneStores (if b then is else js)
  none-if true is js a c = a
  none-if false is js a c = c

-- ---- of a node
-- how many its code may have, where a `prolog` stores this many homes and saves this many of V0, V1 and V2
abbrev pub allowed : Target → ℕ → ℕ → List Choice → Op → ℕ
allowed target homes saved choices o = spills choices + own_stores target homes saved o
