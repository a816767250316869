-- Cases of what is at the front of a text.
use Rattle.std.proofs.Common.{◌≡◌, Bool, true, false, cond, refl, Option, Some, None}
use Rattle.std.specs.Option.{option_map_or}
use Rattle.lg_lex.specs.Tokens.{Tokens}

-- what holds of the tokens from either front on holds of those from the one that is chosen
pub cond_front : {A : Type 0} (Holds : Tokens → Type 0) (front : A → Tokens) (Within : A → Type 0) (b : Bool) (x y : A) → (b ≡ true → Within x → Holds (front x)) → (b ≡ false → Within y → Holds (front y))
    → Within (cond b x y) → Holds (front (cond b x y))
cond_front Holds front Within true x y first second = first refl
cond_front Holds front Within false x y first second = second refl

pub option_front : {A X : Type 0} (Holds : Tokens → Type 0) (front : A → Tokens) (Within : A → Type 0) (f : X → A) (o : Option X) (d : A) → ((x : X) → o ≡ Some x → Within (f x) → Holds (front (f x)))
    → (o ≡ None → Within d → Holds (front d)) → Within (option_map_or f o d) → Holds (front (option_map_or f o d))
option_front Holds front Within f None d some none = none refl
option_front Holds front Within f (Some x) d some none = some x refl
