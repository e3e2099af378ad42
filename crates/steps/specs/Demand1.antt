-- Demand 1, as it is stated: "When the bench says no", row by row, with the count, element and address of each answer.
use Rattle.std.specs.Prelude.{ℕ, suc, ◌%◌, ◌≤◌, ◌<◌, ◌≡◌, true, false}
use Rattle.words.specs.Layouts.{LaidOut, Means}
use Rattle.steps.specs.Insns.{Insn, Shape, Replicate, ByElement, Contiguous, Block, Undefined, Ok, Err}
use Rattle.memory.specs.Areas.{Areas}
use Rattle.steps.specs.Benches.{Lent, Bench, areas_in}
use Rattle.steps.specs.Answers.{Report, report_with}
use Rattle.steps.specs.Terms.{scalar}
use Rattle.steps.specs.Said.{Accepted, m, Active, Checks, byte_at, CanRead, Missing, Forbidden}

-- byte k of active element e is bad, missing or forbidden as `Bad` says, and is the first such byte: all bytes of the active elements below e,
-- and those of e below k, can be read
pub record FirstBad (Bad : Areas → ℕ → Type 0) (l : Lent) (b : Bench) (i : Insn) (e k : ℕ) : Type 0 where
  pub active : Active l i e
  pub within : k < m i
  pub bad : Bad (areas_in l b) (byte_at l b.scalars i e k)
  pub before : (f : ℕ) → f < e → Active l i f → (j : ℕ) → j < m i → CanRead (areas_in l b) (byte_at l b.scalars i f j)
  pub below : (j : ℕ) → j < k → CanRead (areas_in l b) (byte_at l b.scalars i e j)

-- n of the numbers below e have the property
pub data Counted (P : ℕ → Type 0) : ℕ → ℕ → Type 0 where
  start : Counted P 0 0
  hit : {e n : ℕ} → P e → Counted P e n → Counted P (suc e) (suc n)
  miss : {e n : ℕ} → (P e → ⊥) → Counted P e n → Counted P (suc e) n

-- LD1RO. `Wide` and `On` are the definition's isWide and switchedOn as statements, clause by clause: a transcription, and no second source
abbrev pub WideAs : Shape → Type 0
WideAs (Replicate q back) = ⊥
WideAs (ByElement imm6) = ⊥
WideAs (Contiguous offset) = ⊥
WideAs (Block wide offset) = wide ≡ true

abbrev pub Wide : Insn → Type 0
Wide i = WideAs i.shape

-- the switch that the load needs is on: "LD1R with SIMD off; any other with SVE off" earns 4; LD2R to LD4R stand with LD1R
abbrev pub OnAs : Shape → Lent → Type 0
OnAs (Replicate q back) l = l.settings.simd ≡ true
OnAs (ByElement imm6) l = l.settings.sve ≡ true
OnAs (Contiguous offset) l = l.settings.sve ≡ true
OnAs (Block wide offset) l = l.settings.sve ≡ true

abbrev pub On : Lent → Insn → Type 0
On l i = OnAs i.shape l

-- an accepted set-up whose word is a load that is defined and on
pub record Defined (l : Lent) (w : ℕ) (b : Bench) (i : Insn) : Type 0 where
  pub accepted : Accepted l b
  pub reads : Means w (Ok i)
  pub f64mm : Wide i → l.settings.f64mm ≡ true
  pub on : On l i
  pub long : Wide i → 256 ≤ l.settings.vl

-- .. and the stack rule holds: "SP as base must be a multiple of 16"
pub record Ready (l : Lent) (w : ℕ) (b : Bench) (i : Insn) : Type 0 where
  pub defined : Defined l w b i
  pub stack : i.base ≡ 31 → Checks l i → scalar b.scalars 31 % 16 ≡ 0

abbrev pub AllReadable : Lent → Bench → Insn → Type 0
AllReadable l b i = (e : ℕ) → Active l i e → (k : ℕ) → k < m i → CanRead (areas_in l b) (byte_at l b.scalars i e k)

-- no load reaches an element of this number: 2,048 bits have 256 lanes of 8
abbrev pub element_limit : ℕ
element_limit = 256

-- "When the bench says no", row by row: what a step tells, and when. Which word is which load is said by the family table as it is written
pub data Given (l : Lent) (w : ℕ) (b : Bench) : Report → Type 0 where
  ran : {n : ℕ} (i : Insn) → Ready l w b i → AllReadable l b i → Counted (Active l i) element_limit n → Given l w b (report_with 0 n 0 0)
  set_up : (Accepted l b → ⊥) → Given l w b (report_with 1 0 0 0)
  outside : Accepted l b → (LaidOut w → ⊥) → Given l w b (report_with 2 0 0 0)
  undefined : Accepted l b → Means w (Err Undefined) → Given l w b (report_with 3 0 0 0)
  no_f64mm : (i : Insn) → Accepted l b → Means w (Ok i) → Wide i → l.settings.f64mm ≡ false → Given l w b (report_with 3 0 0 0)
  switched_off : (i : Insn) → Accepted l b → Means w (Ok i) → (Wide i → l.settings.f64mm ≡ true) → (On l i → ⊥) → Given l w b (report_with 4 0 0 0)
  short : (i : Insn) → Accepted l b → Means w (Ok i) → Wide i → l.settings.f64mm ≡ true → On l i → l.settings.vl < 256 → Given l w b (report_with 3 0 0 0)
  stack : (i : Insn) → Defined l w b i → i.base ≡ 31 → Checks l i → (scalar b.scalars 31 % 16 ≡ 0 → ⊥) → Given l w b (report_with 5 0 0 0)
  no_memory : {n : ℕ} (i : Insn) (e k : ℕ) → Ready l w b i → FirstBad Missing l b i e k → Counted (Active l i) e n
      → Given l w b (report_with 6 n e (byte_at l b.scalars i e k))
  denied : {n : ℕ} (i : Insn) (e k : ℕ) → Ready l w b i → FirstBad Forbidden l b i e k → Counted (Active l i) e n
      → Given l w b (report_with 7 n e (byte_at l b.scalars i e k))
