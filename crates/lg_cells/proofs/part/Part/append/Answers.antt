use Rattle.std.proofs.Common.{◌≡◌, ◌+◌, length, ap, ◌∙◌, arith}
use Rattle.lg_cells.specs.Cells.{Marks}
use Rattle.lg_cells.proofs.PartLemmas.{IsLonger, appended_cells, ok_then}
use Rattle.lg_cells.proofs.part.Part.append.Goals as goal

pub returns-clause-cells : goal.returns-clause-cells
returns-clause-cells c =
    let m : Marks = record { bytes = c.self.inside.bytes.items; marks = c.self.inside.marks.items; most = c.self.inside.most } in
    let most_is : m.most ≡ c.args.self.now.most = ap (λ (x : Marks). x.most) c.self.view_is in
    let marks_are : length m.marks ≡ length c.args.self.now.marks = ap (λ (x : Marks). length x.marks) c.self.view_is in
    let b_ok = c.extend_from_slice.ensures.succeeds (omega (arith, c.self.invariant.bytes_fit, c.self.invariant.same_len, c.requires, most_is, marks_are, c.self.inside.bytes.ok.0)) in
    let m_ok = c.resize.ensures.succeeds (omega (arith, c.self.invariant.marks_fit, c.requires, most_is, marks_are, c.len.ensures, c.self.inside.marks.ok.0)) in
    let len_is : c.len.result ≡ length m.marks = omega (arith, c.len.ensures, c.self.inside.marks.ok.0) in
    let marks : IsLonger m.marks c.resize.new.self.items (c.len.result + length c.args.bytes.now) 2 = record {
      len_is = omega (arith, c.resize.new.self.ok.0, c.resize.ensures.len ∙ ok_then c.resize.result (c.len.result + length c.args.bytes.now) _ m_ok);
      before = λ k d h h'. c.resize.ensures.by_index.0 k d h (omega (arith, c.self.inside.marks.ok.0));
      after = λ k d h h'. c.resize.ensures.by_index.1 k d m_ok (omega (arith, c.self.inside.marks.ok.0)) h';
    } in
    let n : Marks = record { bytes = c.extend_from_slice.new.self.items; marks = c.resize.new.self.items; most = m.most } in
    rw (← c.self.view_is) (appended_cells m n c.args.bytes.now c.self.invariant.same_len (c.extend_from_slice.ensures.items ∙ ok_then c.extend_from_slice.result _ _ b_ok) (rw len_is at marks))
