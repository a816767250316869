-- What printf writes.
use Rattle.std.specs.Prelude.{ℕ, ◌+◌, ◌-◌, ◌*◌, ◌%◌, ◌^◌, Bool, false, nat_le, List, [], ◌∷◌, ◌++◌, length, replicate, Option, Some, None, if◌then◌else◌, option_and_then}
use Rattle.std.specs.Option.{option_map}
use Rattle.std.specs.Fmt.{digits}
use Rattle.lg_io.specs.Radixes.{digits_in}
use Rattle.lg_host.specs.Runs.{Bytes, run}
use Rattle.lg_host.specs.Strings.{string_in}
use Rattle.lg_host.specs.Formats.{next_of, is_plain}
use Rattle.lg_host.specs.declared.format.Style.{Style}
use Rattle.lg_host.specs.declared.format.Size.{Size}
use Rattle.lg_host.specs.declared.format.Size.TheVariants as size
use Rattle.lg_host.specs.declared.format.Kind.{Kind}
use Rattle.lg_host.specs.declared.format.Kind.TheVariants as kind
use Rattle.lg_host.specs.declared.format.Reading.{Reading}
use Rattle.lg_host.specs.declared.format.Reading.TheVariants as reading
use Rattle.lg_host.specs.declared.format.Next.{Next}
use Rattle.lg_host.specs.declared.format.Next.TheVariants as next

-- a sign and a body in a width: spaces on the right or on the left, or zeros between
abbrev pub padded : Style → List ℕ → List ℕ → List ℕ
padded style sign body =
    let gap = style.width - (length sign + length body) in
    if style.left then sign ++ (body ++ replicate gap 32)
    else if style.zero then sign ++ (replicate gap 48 ++ body)
    else replicate gap 32 ++ (sign ++ body)

-- one more than the largest number of this many bytes
abbrev pub span : Size → ℕ
span size.Byte = 2 ^ 8
span size.Short = 2 ^ 16
span size.Int = 2 ^ 32
span size.Long = 2 ^ 64

-- whether the low bytes of a word are a number below 0
abbrev pub is_negative : Size → ℕ → Bool
is_negative size word = nat_le (span size) (2 * (word % span size))

abbrev pub sign_of : Size → ℕ → List ℕ
sign_of size word = if is_negative size word then 45 ∷ [] else []

abbrev pub magnitude_of : Size → ℕ → ℕ
magnitude_of size word = if is_negative size word then span size - word % span size else word % span size

-- what a conversion prints of a word; a string must be there
abbrev pub converted : Bytes → Style → Kind → ℕ → Option (List ℕ)
converted m style (kind.Signed size) word = Some (padded style (sign_of size word) (digits 10 false (magnitude_of size word)))
converted m style (kind.Unsigned radix size) word = Some (padded style [] (digits_in radix (word % span size)))
converted m style kind.Character word = Some (padded style [] (word % 256 ∷ []))
converted m style kind.Text word = option_map (padded style []) (string_in (run m word))
converted m style kind.Pointer word = Some (padded style (48 ∷ 120 ∷ []) (digits 16 false word))

-- what one byte of a format does: the bytes that are written, where the reading stands, and the arguments that are left
pub record Effect : Type 0 where
  pub bytes : List ℕ
  pub reading : Reading
  pub left : List ℕ

abbrev pub wrote : List ℕ → List ℕ → Effect
wrote bytes left = record { bytes = bytes; reading = reading.Plain; left = left }

abbrev pub effect_of : Bytes → Next → List ℕ → Option Effect
effect_of m (next.Reads r) args = Some record { bytes = []; reading = r; left = args }
effect_of m (next.Puts b) args = Some (wrote (b ∷ []) args)
effect_of m (next.Converts style kind) [] = None
effect_of m (next.Converts style kind) (word ∷ words) = option_map (λ bytes. wrote bytes words) (converted m style kind word)
effect_of m next.Wrong args = None

abbrev pub step_of : Bytes → Reading → ℕ → List ℕ → Option Effect
step_of m r b args = effect_of m (next_of r b) args

abbrev pub followed_by : Option Effect → (Effect → Option (List ℕ)) → Option (List ℕ)
followed_by None rest = None
followed_by (Some effect) rest = option_map (λ bytes. effect.bytes ++ bytes) (rest effect)

-- what the rest of a format prints with the arguments that are left
abbrev pub printed : Bytes → Reading → List ℕ → List ℕ → Option (List ℕ)
printed m r [] args = if is_plain r then Some [] else None
printed m r (b ∷ bs) args = followed_by (step_of m r b args) (λ effect. printed m effect.reading bs effect.left)

-- what the format at an address prints
abbrev pub printed_at : Bytes → Reading → ℕ → List ℕ → Option (List ℕ)
printed_at m r a args = option_and_then (λ format. printed m r format args) (string_in (run m a))
