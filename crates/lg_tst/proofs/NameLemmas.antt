-- Names as they are held: keys with their bytes, and meanings beside them.
use Rattle.std.proofs.Common.{◌≡◌, ℕ, true, false, if◌then◌else◌, List, Option, refl, sym, ap, ◌∙◌, map, position, is_some}
use Rattle.std.proofs.lemmas.List.{length-map}
use Rattle.std.specs.Str.{bytes_eq}
use Rattle.lg_op.specs.declared.operand.Operand.{Operand}
use Rattle.lg_node.proofs.NodeListLemmas.{place-map}
use Rattle.lg_tst.specs.Names.{FunctionNames, is_made, with_name}

-- the place of a name among the keys
pub place_held : {K : Type 0} (bytes_of : K → List ℕ) (q : List ℕ) (ks : List K) → position (bytes_eq q) (map bytes_of ks) ≡ position (λ k. bytes_eq q (bytes_of k)) ks
place_held bytes_of q ks = rw (place-map bytes_of q ks, length-map ks bytes_of) refl

-- a name is made where it is among the keys
pub made_held : {K : Type 0} (bytes_of : K → List ℕ) (q : List ℕ) (ks : List K) (found : Option ℕ) → found ≡ position (λ k. bytes_eq q (bytes_of k)) ks → is_some (position (bytes_eq q) (map bytes_of ks)) ≡ is_some found
made_held bytes_of q ks found e = ap is_some (place_held bytes_of q ks ∙ sym e)

pub made_names : (names new : FunctionNames) (word : List ℕ) (meaning : Operand) → is_made names word ≡ false → new ≡ with_name names word meaning → new ≡ (if is_made names word then names else with_name names word meaning)
made_names names new word meaning absent e = e ∙ sym (ap (λ b. if b then names else with_name names word meaning) absent)

pub made_already : (names : FunctionNames) (word : List ℕ) (meaning : Operand) → is_made names word ≡ true → names ≡ (if is_made names word then names else with_name names word meaning)
made_already names word meaning made = sym (ap (λ b. if b then names else with_name names word meaning) made)
