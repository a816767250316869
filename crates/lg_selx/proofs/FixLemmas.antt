-- The fixes of a node's items lead where those of the node may.
use Rattle.std.proofs.Common.{◌≡◌, ℕ, ◌+◌, ◌%◌, ◌≤◌, true, length, arith}
use Rattle.std.specs.List.{AllByRecursion}
use Rattle.lg_buf.specs.Buffers.{Buffer, place_of}
use Rattle.lg_buf.specs.declared.fixes.Fix.{Fix}
use Rattle.lg_buf.specs.declared.fixes.FixKind.TheVariants.{X86Rel8}
use Rattle.lg_op.specs.declared.node.Node.{Node}
use Rattle.lg_op.specs.declared.op.Op.TheVariants as op
use Rattle.lg_sel.proofs.LabelLemmas.{names}
use Rattle.lg_sel.specs.Selected.{IsFixOf}
use Rattle.lg_sel.specs.Holes.{Each}
use Rattle.lg_sel.specs.declared.reach.Reach.{Reach}
use Rattle.lg_sel.specs.declared.reach.Reach.TheVariants as reaches
use Rattle.lg_selx.proofs.Emissions.{Names}
use Rattle.lg_sel.proofs.ReachLemmas.{led-fits}
use Rattle.lg_sel.proofs.OfControl.ControlLemmas.{differ}
use Rattle.lg_sel.specs.Reaches.{Leads, IsChecked}
use Rattle.lg_selx_values.specs.Items.{fix_of}
use Rattle.lg_selx_values.specs.declared.items.Item.{Item}
use Rattle.lg_selx_values.specs.declared.items.Item.TheVariants.{One, Jump, Address}
use Rattle.lg_selx_values.specs.declared.items.JumpKind.TheVariants.{Near, NearIf, Short, ShortIf}

module _ (n : Node) (old : Buffer) where
  byte-leads : (label place : ℕ) → length old.bytes ≤ place → names n.operands label ≡ true → Leads old (record { place = place + 1; kind = X86Rel8; label = record { 0 = label } })
      → IsFixOf 1 old n (record { place = place + 1; kind = X86Rel8; label = record { 0 = label } })
  byte-leads label place low h checked =
      let f : Fix = record { place = place + 1; kind = X86Rel8; label = record { 0 = label } } in record {
        from = omega (arith, low);
        names = h;
        reaches = λ target t most here led. led-fits old.size f target (place_of old.labels label) checked led (λ waits within. absurd (differ waits));
      }

  pub leads : (reach : Reach) (x : Item) (place : ℕ) → length old.bytes ≤ place → place % 1 ≡ 0 → Names reach (names n.operands) x → Each (IsChecked reach old) (fix_of place x)
      → AllByRecursion (IsFixOf 1 old n) (fix_of place x)
  leads reach (One i) place low even h checked = tt
  leads reach (Jump (Near op) label) place low even h checked =
      (record { from = omega (arith, low); names = h; reaches = λ target t most here led. (omega (arith, most, here), omega (arith, most, here)) }, tt)
  leads reach (Jump (NearIf cond) label) place low even h checked =
      (record { from = omega (arith, low); names = h; reaches = λ target t most here led. (omega (arith, most, here), omega (arith, most, here)) }, tt)
  leads reaches.Short (Jump Short label) place low even h checked = (byte-leads label place low h (checked.0 tt), tt)
  leads reaches.Near (Jump Short label) place low even h checked = absurd h
  leads reaches.Far (Jump Short label) place low even h checked = absurd h
  leads reaches.Short (Jump (ShortIf cond) label) place low even h checked = (byte-leads label place low h (checked.0 tt), tt)
  leads reaches.Near (Jump (ShortIf cond) label) place low even h checked = absurd h
  leads reaches.Far (Jump (ShortIf cond) label) place low even h checked = absurd h
  leads reach (Address reg label) place low even h checked = (record { from = omega (arith, low); names = h; reaches = λ target t most here led. omega (arith, most) }, tt)
