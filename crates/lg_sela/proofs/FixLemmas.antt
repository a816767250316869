-- The fixes of a node's items lead where those of the node may.
use Rattle.std.proofs.Common.{◌≡◌, ℕ, ◌+◌, ◌%◌, ◌≤◌, true, length, arith}
use Rattle.std.specs.List.{AllByRecursion}
use Rattle.lg_buf.specs.Buffers.{Buffer, place_of}
use Rattle.lg_buf.specs.declared.fixes.Fix.{Fix}
use Rattle.lg_buf.specs.declared.fixes.FixKind.TheVariants.{A64Cond19}
use Rattle.lg_op.specs.declared.node.Node.{Node}
use Rattle.lg_sel.proofs.LabelLemmas.{names}
use Rattle.lg_sel.specs.Selected.{IsFixOf}
use Rattle.lg_sel.specs.Holes.{Each}
use Rattle.lg_sel.specs.declared.reach.Reach.{Reach}
use Rattle.lg_sel.specs.declared.reach.Reach.TheVariants.{Short, Near, Far}
use Rattle.lg_sela.proofs.Emissions.{Names}
use Rattle.lg_sel.proofs.ReachLemmas.{led-fits, is-near}
use Rattle.lg_sel.specs.Reaches.{Leads, IsChecked}
use Rattle.lg_sela_values.specs.Items.{a64_holes, fix_of}
use Rattle.lg_sela_values.specs.declared.items.Item.{Item}
use Rattle.lg_sela_values.specs.declared.items.Item.TheVariants.{One, Branch, CondBranch, Address}

module _ (n : Node) (old : Buffer) where
  cond-leads : (label place : ℕ) → length old.bytes ≤ place → place % 4 ≡ 0 → names n.operands label ≡ true
      → Leads old (record { place = place; kind = A64Cond19; label = record { 0 = label } }) → IsFixOf 4 old n (record { place = place; kind = A64Cond19; label = record { 0 = label } })
  cond-leads label place low even h checked =
      let f : Fix = record { place = place; kind = A64Cond19; label = record { 0 = label } } in record {
        from = low;
        names = h;
        reaches = λ target t most here led. led-fits old.size f target (place_of old.labels label) checked led
            (λ waits within. (let w = within (is-near old.size waits) in let a = w.0 in let b = w.1 in (omega (arith, a), omega (arith, b)), omega (arith, even, t)));
      }

  pub leads : (reach : Reach) (x : Item) (place : ℕ) → length old.bytes ≤ place → place % 4 ≡ 0 → Names reach (names n.operands) x → Each (IsChecked reach old) (fix_of place x)
      → AllByRecursion (IsFixOf 4 old n) (fix_of place x)
  leads reach (One i) place low even h checked = tt
  leads reach (Branch op label) place low even h checked =
      (record { from = low; names = h; reaches = λ target t most here led. ((omega (arith, most, here), omega (arith, most, here)), omega (arith, even, t)) }, tt)
  leads Short (CondBranch cond label) place low even h checked = (cond-leads label place low even h (checked.0 tt), tt)
  leads Near (CondBranch cond label) place low even h checked = (cond-leads label place low even h (checked.0 tt), tt)
  leads Far (CondBranch cond label) place low even h checked = absurd h
  leads reach (Address rd label) place low even h checked = (record { from = low; names = h; reaches = λ target t most here led. omega (arith, most) }, tt)

-- an item has whole instructions
pub whole : (x : Item) (place : ℕ) → place % 4 ≡ 0 → (place + length (a64_holes.blank x)) % 4 ≡ 0
whole (One i) place h = omega (arith, h)
whole o place h = omega (arith, h)
