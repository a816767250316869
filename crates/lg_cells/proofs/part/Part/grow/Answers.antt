use Rattle.std.proofs.Common.{◌≡◌, length, ap, ◌∙◌, arith}
use Rattle.lg_cells.specs.Cells.{Marks}
use Rattle.lg_cells.proofs.PartLemmas.{IsLonger, grown_cells, ok_then}
use Rattle.lg_cells.proofs.part.Part.grow.Goals as goal

pub returns-clause-cells : goal.returns-clause-cells
returns-clause-cells c =
    let m : Marks = record { bytes = c.self.inside.bytes.items; marks = c.self.inside.marks.items; most = c.self.inside.most } in
    let most_is : m.most ≡ c.args.self.now.most = ap (λ (x : Marks). x.most) c.self.view_is in
    let marks_are : length m.marks ≡ length c.args.self.now.marks = ap (λ (x : Marks). length x.marks) c.self.view_is in
    let b_ok = c.resize.ensures.succeeds (omega (arith, c.self.invariant.bytes_fit, c.requires.most, most_is)) in
    let m_ok = c.resize-2.ensures.succeeds (omega (arith, c.self.invariant.marks_fit, c.requires.most, most_is)) in
    let bytes : IsLonger m.bytes c.resize.new.self.items c.args.len 0 = record {
      len_is = omega (arith, c.resize.new.self.ok.0, c.resize.ensures.len ∙ ok_then c.resize.result c.args.len _ b_ok);
      before = λ k d h h'. c.resize.ensures.by_index.0 k d h (omega (arith, c.self.inside.bytes.ok.0));
      after = λ k d h h'. c.resize.ensures.by_index.1 k d b_ok (omega (arith, c.self.inside.bytes.ok.0)) h';
    } in
    let marks : IsLonger m.marks c.resize-2.new.self.items c.args.len c.args.mark = record {
      len_is = omega (arith, c.resize-2.new.self.ok.0, c.resize-2.ensures.len ∙ ok_then c.resize-2.result c.args.len _ m_ok);
      before = λ k d h h'. c.resize-2.ensures.by_index.0 k d h (omega (arith, c.self.inside.marks.ok.0));
      after = λ k d h h'. c.resize-2.ensures.by_index.1 k d m_ok (omega (arith, c.self.inside.marks.ok.0)) h';
    } in
    let n : Marks = record { bytes = c.resize.new.self.items; marks = c.resize-2.new.self.items; most = m.most } in
    rw (← c.self.view_is) (grown_cells m n c.args.len c.args.mark c.requires.mark c.self.invariant.same_len (omega (arith, c.requires.more, marks_are)) bytes marks)
