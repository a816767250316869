-- What is said besides of what was done, and the lines that explain an answer.
use Rattle.std.proofs.Common.{◌≡◌, ℕ, Bool, true, false, inl, inr, List, [], ◌∷◌, Option, Some, None, refl, sym, ap, ◌∙◌, subst}
use Rattle.std.specs.Prelude.{◌&&◌, if◌then◌else◌}
use Rattle.std.specs.Str.{bytes_eq}
use Rattle.std.specs.Global.{Vec}
use Rattle.std.proofs.lemmas.Slice.Eq.{bytes_eq-Decides}
use Rattle.lg_asm.specs.Assembled.{Assembled}
use Rattle.lg_base.specs.Arguments.{args_too_long}
use Rattle.lg_base.specs.declared.refusal.Refusal.{Refusal}
use Rattle.lg_base.specs.declared.refusal.Stop.{Stop}
use Rattle.lg_base.specs.declared.refusal.Stop.TheVariants as stop
use Rattle.lg_carry.specs.Agreement.{shape_of_unit}
use Rattle.lg_command.specs.Commands.{Command}
use Rattle.lg_command.specs.Plans.{report_of, source_of}
use Rattle.lg_command.specs.declared.plan.Report.{Report}
use Rattle.lg_command.specs.declared.plan.Report.TheVariants as report
use Rattle.lg_command.specs.declared.plan.Source.TheVariants as source
use Rattle.lg_command.proofs.PlanLemmas.{explanation_means, explanation_reads}
use Rattle.lg_explain.specs.Sentences.{refusal_lines}
use Rattle.lg_explain.specs.declared.stop.StuckAt.{StuckAt}
use Rattle.lg_io.specs.NamedTexts.{NamedTexts, text_under}
use Rattle.lg_io.specs.SinkChanges.{SinkChange}
use Rattle.lg_node.specs.declared.unit.Unit.{Unit as TextUnit}
use Rattle.lg_tst.specs.Units.{unit_of}
use Rattle.lg_prof.specs.declared.tally.Counts.{Counts}
use Rattle.lg_run.specs.Changes.{TellsWrites}
use Rattle.lg_run.specs.Explained.{ExplainedIn, IsUndefinedAt, answer_explained, is_explain, is_explained, names_line}
use Rattle.lg_run.specs.Explanations.{HasStuck, ReadExplains, StuckFor, StuckIn, StuckWhere, WorkExplains, explained_of, is_refused, is_undefined, read_explained, tells_stuck, word_explained, word_of_answer}
use Rattle.lg_run.specs.ProfileStarts.{RanTells, ReadTold, WorkTells}
use Rattle.lg_run.specs.Profiles.{TableFor, TableIn, is_run_end, table_of, tells_table}
use Rattle.lg_run.specs.Refused.{Expands, IsRefusedCall, IsRefusedIn, IsRefusedRead, IsTextIn, IsTextUnder}
use Rattle.lg_run.specs.Says.{AnswerSays, IsCodeOf, ActionSays, Ran, code_meaning}
use Rattle.lg_run.specs.Work.{ReadDone}
use Rattle.lg_run.specs.declared.answer.Answer.{Answer}
use Rattle.lg_run.specs.declared.answer.Answer.TheVariants.{Undefined, Refused, OutOfMemory}
use Rattle.lg_run.specs.declared.answer.Done.{Done}
use Rattle.lg_run.specs.declared.profile.Profiled.{Profiled}
use Rattle.lg_run.specs.declared.profile.Worked.{Worked}
use Rattle.lg_run.proofs.ProfileLemmas.{no_table}
use Rattle.lg_run.proofs.RefusedLemmas.{text_same}
use Rattle.lg_run.proofs.SameLemmas.{ok_same, some_same}

-- ---- where nothing is reported
and_false : (b : Bool) → (b && false) ≡ false
and_false true = refl
and_false false = refl

-- nothing is reported of a run where the mode asks for nothing
pub nothing_tells : (c : Command) (code : Assembled) (unit : TextUnit) (p : Profiled) → report_of c.mode ≡ report.Nothing → p.tally ≡ None → p.stuck ≡ None → RanTells c code unit p
nothing_tells c code unit p is tally stuck = (
  subst (λ m. TableFor (tells_table m p.ran.answer) c code unit p.ran.steps (table_of p.tally)) (sym is) (ap table_of tally),
  subst (λ m. StuckFor (tells_stuck m p.ran.answer) c code unit p.ran.steps p.stuck) (sym is) stuck,
)

-- the meaning that is explained has no table, and where it is undefined that is reported
pub explain_tells : (c : Command) (code : Assembled) (unit : TextUnit) (p : Profiled) → report_of c.mode ≡ report.Explanation → p.tally ≡ None
    → StuckWhere (is_undefined p.ran.answer) unit.nodes (shape_of_unit unit) code.labels (code_meaning c code unit p.ran.steps).state p.stuck → RanTells c code unit p
explain_tells c code unit p is none stuck = (
  subst (λ m. TableFor (tells_table m p.ran.answer) c code unit p.ran.steps (table_of p.tally)) (sym is) (ap table_of none),
  subst (λ m. StuckFor (tells_stuck m p.ran.answer) c code unit p.ran.steps p.stuck) (sym is) stuck,
)

-- where nothing is explained, or the step is not undefined, nothing is reported
pub stuck_none : (c : Command) (held : Option NamedTexts) (code : Option Assembled) (steps : ℕ) (a : Answer) (stuck : Option StuckAt) → is_undefined a ≡ false → stuck ≡ None
    → StuckIn (tells_stuck (report_of c.mode) a) c held code steps stuck
stuck_none c held code steps a stuck other none =
    subst (λ b. StuckIn b c held code steps stuck) (sym (ap (λ b. is_explain (report_of c.mode) && b) other ∙ and_false (is_explain (report_of c.mode)))) none

-- nothing is reported of what stopped before it ran
pub stopped_tells : (c : Command) (held : Option NamedTexts) (w : Worked) (d : Done) (a : Answer) → w.done ≡ d → w.tally ≡ None → w.stuck ≡ None → d.answer ≡ a → is_run_end a ≡ false → is_undefined a ≡ false
    → WorkTells c held w
stopped_tells c held w d a done tally stuck is end defined =
    let same : w.done.answer ≡ a = ap (λ x. x.answer) done ∙ is in (
      no_table c held w.done.code w.done.steps w.done.answer w.tally (ap is_run_end same ∙ end) tally,
      stuck_none c held w.done.code w.done.steps w.done.answer w.stuck (ap is_undefined same ∙ defined) stuck,
    )

-- what is said of code is said of the call
pub stuck_tells : (c : Command) (held : Option NamedTexts) (code : Assembled) (made : IsCodeOf c held code) (b : Bool) (steps : ℕ) (stuck : Option StuckAt) → StuckFor b c code made.unit steps stuck
    → StuckIn b c held (Some code) steps stuck
stuck_tells c held code made false steps stuck h = h
stuck_tells c held code made true steps stuck h = record { ran = code; is = refl; made = made; at = h.0; told = h.1; why = h.2 }

-- what is shown stays shown where what was read is kept
pub kept_tells : (c : Command) (read : List ℕ) (d w : Worked) → w.done ≡ d.done → w.tally ≡ d.tally → w.stuck ≡ d.stuck → ReadTold c read d → ReadTold c read w
kept_tells c read d w done tally stuck told held under =
    subst (λ (x : Done × Option (List Counts) × Option StuckAt). Tells x.0 x.1 x.2) (λ i. (sym done i, sym tally i, sym stuck i)) (told held under)
  where
    Tells : Done → Option (List Counts) → Option StuckAt → Type 0
    Tells e t s = TableIn (tells_table (report_of c.mode) e.answer) c held e.code e.steps (table_of t) × StuckIn (tells_stuck (report_of c.mode) e.answer) c held e.code e.steps s

-- ---- no lines
pub unexplained : (c : Command) (held : Option NamedTexts) (w : Worked) → w.read ≡ None → is_explained w.done.answer ≡ false → WorkExplains c held w
unexplained c held w none other =
    subst (λ b. ExplainedIn b c held w.done.code w.done.steps w.done.answer (explained_of (report_of c.mode) c.file w)) (sym (ap (λ b. is_explain (report_of c.mode) && b) other ∙ and_false (is_explain (report_of c.mode))))
    (at (is_explain (report_of c.mode)))
  where
    at : (b : Bool) → (if b then read_explained c.file w.read w.word w.stuck w.done.answer else []) ≡ []
    at true = ap (λ r. read_explained c.file r w.word w.stuck w.done.answer) none
    at false = refl

-- of what stopped with an answer that is not explained
pub stopped_explains : (c : Command) (held : Option NamedTexts) (w : Worked) (d : Done) (a : Answer) → w.done ≡ d → w.read ≡ None → d.answer ≡ a → is_explained a ≡ false → WorkExplains c held w
stopped_explains c held w d a done none is other =
    unexplained c held w none (ap (λ x. is_explained x.answer) done ∙ ap is_explained is ∙ other)

-- words of arguments that are too long are refused without a line
pub stop_unexplained : (s : Stop) (a : Answer) → ((r : Refusal) → s ≡ stop.Refused r → a ≡ Refused r) → (s ≡ stop.OutOfMemory → a ≡ OutOfMemory) → ((r : Refusal) → s ≡ stop.Refused r → r ≡ args_too_long)
    → is_explained a ≡ false
stop_unexplained (stop.Refused r) a refused memory long = ap is_explained (refused r refl) ∙ ap (λ q. names_line q.kind) (long r refl)
stop_unexplained stop.OutOfMemory a refused memory long = ap is_explained (memory refl)

pub not_explained : (c : Command) (held : Option NamedTexts) (w : Worked) → is_explain (report_of c.mode) ≡ false → WorkExplains c held w
not_explained c held w other =
    subst (λ b. ExplainedIn (b && is_explained w.done.answer) c held w.done.code w.done.steps w.done.answer (if b then read_explained c.file w.read w.word w.stuck w.done.answer else [])) (sym other) refl

-- ---- the lines of what was read
-- a text under a name, alone
abbrev alone : List ℕ → List ℕ → NamedTexts
alone name text = (name, text) ∷ []

same_name : (name : List ℕ) → bytes_eq name name ≡ true
same_name name = (bytes_eq-Decides name name).1 refl

stands_alone : (name text : List ℕ) → text_under (alone name text) name ≡ Some text
stands_alone name text = ap (λ b. if b then Some text else None) (same_name name)

module _ (c : Command) (read : List ℕ) (explain : report_of c.mode ≡ report.Explanation) where
  abbrev file : source_of c.mode ≡ source.File
  file = explanation_reads c.mode explain

  abbrev told : Option NamedTexts
  told = Some (alone c.file read)

  -- what is refused of the text that stands alone
  read_refused : (r : Refusal) → names_line r.kind ≡ true → IsRefusedCall c told r → IsRefusedRead c read r
  read_refused r names (inl long) = absurd (named (sym names ∙ ap (λ q. names_line q.kind) long.0))
    where
      named : true ≡ false → ⊥
      named e = cc
  read_refused r names (inr refused) =
      let under = subst (λ m. IsRefusedIn m c told r) file refused.1 in
      subst (λ t. IsRefusedRead c t r) (some_same (sym under.1 ∙ stands_alone c.file read)) under.2

  -- the text of code expands from it
  read_expands : (text : List ℕ) → IsTextIn (source_of c.mode) c told text → Expands read text
  read_expands text given =
      let under = subst (λ m. IsTextIn m c told text) file given in
      subst (λ t. Expands t text) (some_same (sym under.1 ∙ stands_alone c.file read)) under.2

  -- code of it is code of what is held under the name
  abbrev code_held : (held : Option NamedTexts) (ran : Assembled) → IsTextUnder held c.file read → IsCodeOf c told ran → IsCodeOf c held ran
  code_held held ran under made = record {
    text = made.text;
    given = subst (λ m. IsTextIn m c held made.text) (sym file) (read, under, read_expands made.text made.given);
    unit = made.unit;
    reads = made.reads;
    accepted = made.accepted;
    fits = made.fits;
    bytes = made.bytes;
    target = made.target;
    size_is = made.size_is;
    taken = made.taken;
    rewritten = made.rewritten;
    size = made.size;
    agrees = made.agrees;
  }

  -- the step is undefined in the meaning of that code
  undefined_there : (out : SinkChange) (code : Option Assembled) (steps line : ℕ) (stuck : Option StuckAt) (r : Ran c told code steps out (Undefined line)) (h : HasStuck c told code steps stuck)
      → IsUndefinedAt c h.ran h.made.unit steps line
  undefined_there out code steps line stuck r h =
      let same : r.ran ≡ h.ran = some_same (sym r.is ∙ h.is) in
      let unit : r.made.unit ≡ h.made.unit = ok_same (sym r.made.reads ∙ ap unit_of (text_same (source_of c.mode) c (alone c.file read) r.made.text h.made.text r.made.given h.made.given) ∙ h.made.reads) in
      let says = subst (λ m. ActionSays m c r.ran r.made.unit steps out (Undefined line)) (explanation_means c.mode explain) r.says in
      subst (λ u. IsUndefinedAt c h.ran u steps line) unit
      (subst (λ x. IsUndefinedAt c x r.made.unit steps line) same (record { goes = says.1; bad = says.2; at = says.3 }))

  explained_at : (held : Option NamedTexts) → IsTextUnder held c.file read → (out : SinkChange) (code : Option Assembled) (steps : ℕ) (word : Option (List ℕ)) (stuck : Option StuckAt) (a : Answer)
      → AnswerSays c told code steps out a → StuckIn (is_undefined a) c told code steps stuck → word ≡ word_of_answer read a
      → ExplainedIn (is_explained a) c held code steps a (answer_explained c.file read word stuck a)
  explained_at held under out code steps word stuck (Refused r) says h e = by (names_line r.kind) refl
    where
      by : (b : Bool) → names_line r.kind ≡ b → ExplainedIn b c held code steps (Refused r) (if b then refusal_lines c.file read word r else [])
      by true names = record { read = read; under = under; by = record { refused = read_refused r names says.1; are = ap (λ w. refusal_lines c.file read w r) e } }
      by false names = refl
  explained_at held under out code steps word stuck (Undefined line) says h e = record {
    read = read;
    under = under;
    by = record {
      ran = h.ran;
      is = h.is;
      made = code_held held h.ran under h.made;
      expands = read_expands h.made.text h.made.given;
      undefined = undefined_there out code steps line stuck says h;
      stuck = h.at;
      why = h.why;
      are = ap (step_shown line) h.told;
    };
  }
    where
      step_shown : ℕ → Option StuckAt → List ℕ
      step_shown line s = answer_explained c.file read word s (Undefined line)
  explained_at held under out code steps word stuck a says h e = refl

explain_is : (m : Report) → is_explain m ≡ true → m ≡ report.Explanation
explain_is report.Explanation e = refl
explain_is m e = cc

-- what is written of what was read explains what was done
pub kept_explains : (c : Command) (read : Vec ℕ) (out : SinkChange) (d : Worked) (w : Worked) → w.done ≡ d.done → w.stuck ≡ d.stuck → w.read ≡ Some read
    → w.word ≡ word_explained (report_of c.mode) read.items d.done.answer → ReadDone c read.items out d.done → ReadTold c read.items d → ReadExplains c read.items w
kept_explains c read out d w done stuck kept word says told held under = by (is_explain (report_of c.mode)) refl
  where
    Explains : Bool → Done → Option StuckAt → Option (Vec ℕ) → Type 0
    Explains b e s r =
        ExplainedIn (b && is_explained e.answer) c held e.code e.steps e.answer (if b then read_explained c.file r w.word s e.answer else [])

    by : (b : Bool) → is_explain (report_of c.mode) ≡ b → WorkExplains c held w
    by false is = not_explained c held w is
    by true is =
        let alike = stands_alone c.file read.items in
        let on = Some (alone c.file read.items) in
        let h = subst (λ b. StuckIn (b && is_undefined d.done.answer) c on d.done.code d.done.steps d.stuck) is (told on alike).1 in
        let here = explained_at c read.items (explain_is (report_of c.mode) is) held under out d.done.code d.done.steps w.word d.stuck d.done.answer (says on alike) h
        (word ∙ ap (λ b. if b then word_of_answer read.items d.done.answer else None) is) in
        subst (λ b. Explains b w.done w.stuck w.read) (sym is)
        (subst (λ (x : Done × Option StuckAt × Option (Vec ℕ)). Explains true x.0 x.1 x.2) (λ i. (sym done i, sym stuck i, sym kept i)) here)

-- ---- memory that was requested for the word
-- a refusal leaves all as it was, so running out of memory after it does too
still_of : (c : Command) (held : Option NamedTexts) (code : Option Assembled) (steps : ℕ) (out : SinkChange) (a : Answer) → is_refused a ≡ true → AnswerSays c held code steps out a → out.taken' ≡ out.taken
still_of c held code steps out (Refused r) e h = h.0.still.out_same
still_of c held code steps out a e h = cc

pub memory_says : (c : Command) (read : List ℕ) (out : SinkChange) (d e : Done) → is_refused d.answer ≡ true → ReadDone c read out d → e.answer ≡ OutOfMemory → e.code ≡ None → e.steps ≡ 0 → ReadDone c read out e
memory_says c read out d e refused says answer code steps held under =
    let same = still_of c held d.code d.steps out d.answer refused (says held under) in
    subst (λ (x : Option Assembled × ℕ × Answer). AnswerSays c held x.0 x.1 out x.2) (λ i. (sym code i, sym steps i, sym answer i))
    (record { steps_none = refl; out_same = same }, tt)

pub memory_writes : (a : Answer) (out : SinkChange) → is_refused a ≡ true → TellsWrites a out → TellsWrites OutOfMemory out
memory_writes (Refused r) out e h = h
memory_writes a out e h = cc
