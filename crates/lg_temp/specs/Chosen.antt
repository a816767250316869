-- Which registers the temporaries of a node take.
use Rattle.std.specs.Prelude.{ℕ, ◌+◌, ◌==◌, ◌&&◌, ◌||◌, not, Bool, false, List, [], ◌∷◌, ◌++◌, take, drop, reverse, find, Option, Some, None, if◌then◌else◌}
use Rattle.std.specs.List.{list_any}
use Rattle.std.specs.Option.{option_and_then}
use Rattle.lg_base.specs.Conventions.{argument_registers, portable_registers}
use Rattle.lg_base.specs.declared.target.Target.{Target}
use Rattle.lg_op.specs.declared.node.Node.{Node}
use Rattle.lg_op.specs.declared.operand.Reg.{Reg}
use Rattle.lg_op.specs.declared.operand.Reg.TheVariants.{R0, R1, R2, V0, V1, V2}
use Rattle.lg_live.specs.Uses.{is_read, is_written}
use Rattle.lg_temp.specs.Abis.{register_of}
use Rattle.lg_temp.specs.declared.choice.Need.{Need}
use Rattle.lg_temp.specs.declared.choice.Need.TheVariants.{Any, Only}
use Rattle.lg_temp.specs.declared.choice.Choice.{Choice}
use Rattle.lg_temp.specs.declared.choice.Choice.TheVariants.{Free, Own, Spill}

-- registers are tried in this order: R0, R1, R2, the argument registers from the last to the first, V0, V1, V2
abbrev pub order : Target → List ℕ
order target = take 3 (portable_registers target) ++ (reverse (argument_registers target) ++ drop 3 (portable_registers target))

abbrev pub portable : List Reg
portable = R0 ∷ R1 ∷ R2 ∷ V0 ∷ V1 ∷ V2 ∷ []

-- whether a register of the processor corresponds to a portable one of a set
abbrev pub stands_in : Target → (Reg → Bool) → ℕ → Bool
stands_in target set r = list_any (λ p. set p && (register_of target p == r)) portable

-- whether it is the register of an argument of a set
abbrev pub staged_in : List ℕ → List Bool → ℕ → Bool
staged_in (register ∷ registers) (staged ∷ arguments) r = (staged && (register == r)) || staged_in registers arguments r
staged_in registers arguments r = false

abbrev pub is_only : ℕ → Need → Bool
is_only r (Only named) = named == r
is_only r Any = false

-- whether a need names it
abbrev pub is_named : List Need → ℕ → Bool
is_named needs r = list_any (is_only r) needs

abbrev pub taken_by : Choice → ℕ
taken_by (Free r) = r
taken_by (Own r) = r
taken_by (Spill r slot) = r

-- whether it is chosen already
abbrev pub is_chosen : List Choice → ℕ → Bool
is_chosen choices r = list_any (λ choice. taken_by choice == r) choices

-- the spill slots are used in order
abbrev pub spills : List Choice → ℕ
spills [] = 0
spills (Spill r slot ∷ choices) = spills choices + 1
spills (choice ∷ choices) = spills choices

-- where temporaries are chosen: the target, the registers that the node reads and writes and those that are live after it,
-- and the arguments that are staged
pub record Around : Type 0 where
  pub target : Target
  pub reads : Reg → Bool
  pub writes : Reg → Bool
  pub live : Reg → Bool
  pub staged : List Bool

abbrev pub around : Target → Node → (Reg → Bool) → List Bool → Around
around target node live staged = record { target = target; reads = is_read node; writes = is_written node; live = live; staged = staged }

-- whether the node reads or writes it
abbrev pub is_own : Around → ℕ → Bool
is_own a r = stands_in a.target a.reads r || stands_in a.target a.writes r

-- whether it holds what is needed after the node
abbrev pub is_busy : Around → ℕ → Bool
is_busy a r = stands_in a.target a.live r || staged_in (argument_registers a.target) a.staged r

-- whether a need that names no register may not take it: the node's own, one that a need names, one that is chosen
abbrev pub is_barred : Around → List Need → List Choice → ℕ → Bool
is_barred a needs choices r = is_own a r || (is_named needs r || is_chosen choices r)

-- the first register that is not barred, and the first that is not busy either
abbrev pub first_saved : Around → List Need → List Choice → List ℕ → Option ℕ
first_saved a needs choices registers = find (λ r. not (is_barred a needs choices r)) registers

abbrev pub first_free : Around → List Need → List Choice → List ℕ → Option ℕ
first_free a needs choices registers = find (λ r. not (is_barred a needs choices r || is_busy a r)) registers

-- any register: the first that is free, and only where there is none the first that can be saved
abbrev pub free_or_saved : Option ℕ → Option ℕ → ℕ → Option Choice
free_or_saved (Some r) saved slot = Some (Free r)
free_or_saved None (Some r) slot = Some (Spill r slot)
free_or_saved None None slot = None

abbrev pub pick_any : Around → List Need → List Choice → Option Choice
pick_any a needs choices =
    free_or_saved (first_free a needs choices (order a.target)) (first_saved a needs choices (order a.target)) (spills choices)

-- one register: the node's own where the node writes it, free where the node does not read it and nothing after the node
-- needs it, and else saved
abbrev pub pick_only : Around → List Choice → ℕ → Choice
pick_only a choices r =
    if stands_in a.target a.writes r then Own r
    else if stands_in a.target a.reads r || is_busy a r then Spill r (spills choices)
    else Free r

abbrev pub pick : Around → List Need → List Choice → Need → Option Choice
pick a needs choices Any = pick_any a needs choices
pick a needs choices (Only r) = Some (pick_only a choices r)

-- the choices for the needs that are left, after those that are made
abbrev pub chosen : Around → List Need → List Need → List Choice → Option (List Choice)
chosen a needs [] choices = Some choices
chosen a needs (need ∷ left) choices = option_and_then (λ choice. chosen a needs left (choices ++ choice ∷ [])) (pick a needs choices need)

-- the choices for the needs of a node (at most 3)
abbrev pub choices_of : Around → List Need → Option (List Choice)
choices_of a needs = chosen a needs needs []
