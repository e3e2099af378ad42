-- Demand 3's premise is what it takes. Of two benches that differ in contents and rights alone and both run, the read rights are the same under every
-- active element; and where they leave the same vectors too, so are its bytes. So for loads that run the premise is exactly what demand 3 promises
-- (`premise_exactly`): one that asks for more does not follow here, and one that asks for less does not suffice there.
use mathlib.Core.Path.{◌≡◌, refl, sym, ap, subst, ◌∙◌}
use mathlib.Core.Bool.{Bool, true, false}
use mathlib.Core.List.{List}
use mathlib.Core.Logic.{◌↔◌, ⊎_elim}
use Prim.Native.Nat.{ℕ, ◌-◌, ◌*◌, ◌/◌, ◌%◌, ◌^◌, ◌≤◌, ◌<◌}
use native.Mathlib.Nat.{zero-add, zero-mul, mul-le-mul_right, mod-eq_of_lt, div-div-eq-div-mul, div-lt_iff_lt-mul}
use native.Mathlib.Omega.{arith}
use lib.Dec.{ltb}
use lib.IntN.{ℤ, pos, ◌+ℤ◌}
use lib.ListN.{length, get_or}
use lib.Pow.{pow_mono, pow_pos}
use borrow.Author.Tests.{ltb-true, ltb-false}
use Rattle.ground.proofs.Laws.{true_or_false, little_tells}
use Rattle.ground.proofs.Sizes.{in_lanes}
use Rattle.ground.specs.Lists.{little}
use Rattle.words.specs.Ranges.{ShapeInRange}
use Rattle.memory.specs.Addresses.{wrapℤ}
use Rattle.memory.specs.Areas.{Area, Areas}
use Rattle.memory.specs.Said.{Holds, Right, AreasAccepted, OneOf, in_flash, in_ram, Both, flashes, rams}
use Rattle.words.proofs.Ranges.{means_in_range}
use Rattle.steps.specs.Insns.{Insn, Shape, Replicate, ByElement, Contiguous, Block, Imm, Reg, Option, Some, None}
use Rattle.steps.specs.Benches.{Lent, Bench, InTypes, areas_in}
use Rattle.steps.specs.Answers.{Report, number_of}
use Rattle.steps.specs.Terms.{block_bytes}
use Rattle.steps.specs.Outcomes.{Outcome}
use Rattle.steps.specs.Step.{step_of, StepPromise}
use Rattle.steps.specs.declared.StepResult.{StepResult}
use Rattle.steps.specs.Said.{LengthAllowed, Accepted, m, lane_bytes, N, Q, K, copies, BitSet, LaneActive, ActiveAs, Active, lies_as, byte_at, CanRead}
use Rattle.steps.specs.Demand1.{WideAs, Ready, AllReadable}
use Rattle.steps.specs.Demand2.{destination, TakesAs, lane_in, Extends, Contains}
use Rattle.steps.specs.Demand3.{Same, Touched, SameRights, SameBytes}
use Rattle.steps.specs.Asks.{lent_with, bench_with}
use Rattle.steps.proofs.Actives.{block_bytes_lem, block_some}
use Rattle.steps.proofs.Gives.{ran_only}
use Rattle.steps.proofs.Determined.{byte, contains, value}
use Rattle.steps.proofs.Touches.{same_exactly, ready_reads, ran_as, touched_readable}
use Rattle.steps.proofs.Agrees.{same_report, same_after}
use Rattle.steps.proofs.Demand2.{leaves}

-- what a number is extended to tells it
extended_tells : (signed : Bool) (k n v v' x : ℕ) → k ≤ n → Extends signed (8 * k) (8 * n) v x → Extends signed (8 * k) (8 * n) v' x → v ≡ v'
extended_tells false k n v v' x h p q = sym p ∙ q
extended_tells true k n v v' x h p q =
    let wider : 2 ^ (8 * k) ≤ 2 ^ (8 * n) = pow_mono (let g : 8 * k ≤ 8 * n = omega arith in g) in
    let half = 2 ^ (8 * k - 1) in
    ⊎_elim
    (λ s. let small = ltb-true v half s in ⊎_elim
    (λ t. sym (p.0 small) ∙ q.0 (ltb-true v' half t))
    (λ t. let large = ltb-false v' half t in omega (arith, p.0 small, q.1 large, wider))
    (true_or_false (ltb v' half)))
    (λ s. let large = ltb-false v half s in ⊎_elim
    (λ t. let small = ltb-true v' half t in omega (arith, p.1 large, q.0 small, wider))
    (λ t. omega (arith, p.1 large, q.1 (ltb-false v' half t)))
    (true_or_false (ltb v' half)))
    (true_or_false (ltb v half))

-- every active element is taken by a lane of a destination
module _ (l : Lent) (allowed : LengthAllowed l.settings.vl) (i : Insn) where
  in_register : (k : ℕ) → k * lane_bytes i < l.settings.vl / 8 → k < N l i
  in_register k h = rw (← div-div-eq-div-mul) ((in_lanes i.element.lane (l.settings.vl / 8) (let d = allowed.multiple in omega arith) k).1 h)

  some_copy : (wide : Bool) → (wide ≡ true → 256 ≤ l.settings.vl) → (0 < copies l wide) × (block_bytes wide ≤ l.settings.vl / 8)
  some_copy false long = let h = allowed.least in (omega arith, omega arith)
  some_copy true long = let h = long refl in (omega arith, omega arith)

  single : i.registers ≡ 1 → 0 < i.registers
  single h = omega arith

  taken : (s : Shape) → ShapeInRange i s → (WideAs s → 256 ≤ l.settings.vl) → (e : ℕ) → ActiveAs s l i e
      → (j : ℕ) × (j < i.registers) × (k : ℕ) × (k < N l i) × TakesAs s l i j k e
  taken (Replicate q back) fine long e h =
      let least = allowed.least in
      (e, h, 0, in_register 0 (rw zero-mul (omega arith)), (refl, rw zero-mul (omega (arith, pow_pos (Q q)))))
  taken (ByElement imm6) fine long e h = (0, single fine.3, h.1.0, h.1.1, (h.0, h.1.2))
  taken (Contiguous o) fine long e h = (0, single fine.3, e, h.0, (refl, h.1))
  taken (Block wide o) fine long e h =
      let own = mod-eq_of_lt h.0 in
      let room = (in_lanes i.element.lane (block_bytes wide) (block_bytes_lem wide).0 e).0 h.0 in
      let c = some_copy wide long in
      let fits : e < copies l wide * K wide i = omega (arith, h.0, mul-le-mul_right (K wide i) c.0) in
      let copied = (div-lt_iff_lt-mul (block_some wide i.element.lane)).1 fits in
      (0, single fine.3, e, in_register e (omega (arith, room, c.1)), (sym own, copied, subst (LaneActive l i) (sym own) h.1))

-- accepted areas: an address is in one of them
own_area : (s : Areas) → AreasAccepted s → (a : ℕ) {r r₁ : Area} → OneOf s r → OneOf s r₁ → Holds r a → Holds r₁ a → r₁ ≡ r
own_area s t a in_flash in_flash h k = refl
own_area s t a in_ram in_ram h k = refl
own_area s t a in_flash in_ram h k = absurd (t.share_none a h k)
own_area s t a in_ram in_flash h k = absurd (t.share_none a k h)

-- what an address contains is what the area that holds it has there; and a byte that can be read has the right of that area
module _ (s : Areas) (t : AreasAccepted s) (a : ℕ) {r : Area} (o : OneOf s r) (h : Holds r a) where
  contained_in : (x v : ℕ) → a ≡ x → Contains s x v → v ≡ get_or r.bytes (a - r.start) 0
  contained_in x v e d =
      let c : Contains s a v = subst (λ (y : ℕ). Contains s y v) (sym e) d in
      c.3 ∙ ap (λ (q : Area). get_or q.bytes (a - q.start) 0) (own_area s t a o c.1 h c.2)

  right_in : CanRead s a → Right r a
  right_in c = subst (λ (q : Area). Right q a) (own_area s t a o c.1 h c.2) c.3

-- which elements are active, which lane takes which, and where they lie, is said of the settings, predicates and scalars alone
module _ (l : Lent) (flash flash_rights ram_rights : List ℕ) (i : Insn) where
  abbrev r : Lent
  r = lent_with l flash flash_rights ram_rights

  bit_too : (g : Option ℕ) (n : ℕ) → BitSet l g n → BitSet r g n
  bit_too None n h = h
  bit_too (Some g) n h = h

  lane_too : (e : ℕ) → LaneActive l i e → LaneActive r i e
  lane_too e h = bit_too i.governing (e * lane_bytes i) h

  active_too : (t : Shape) (e : ℕ) → ActiveAs t l i e → ActiveAs t r i e
  active_too (Replicate q back) e h = h
  active_too (ByElement imm6) e h = (h.0, (h.1.0, h.1.1, lane_too h.1.0 h.1.2))
  active_too (Contiguous o) e h = (h.0, lane_too e h.1)
  active_too (Block wide o) e h = (h.0, lane_too e h.1)

  takes_too : (t : Shape) (j k e : ℕ) → TakesAs t l i j k e → TakesAs t r i j k e
  takes_too (Replicate q back) j k e h = h
  takes_too (ByElement imm6) j k e h = (h.0, lane_too k h.1)
  takes_too (Contiguous o) j k e h = (h.0, lane_too k h.1)
  takes_too (Block wide o) j k e h = (h.0, h.1, lane_too (k % K wide i) h.2)

  lies_too : (x : List ℕ) (t : Shape) (e : ℕ) → lies_as t l x i e ≡ lies_as t r x i e
  lies_too x (Replicate q back) e = refl
  lies_too x (ByElement imm6) e = refl
  lies_too x (Contiguous (Imm v)) e = refl
  lies_too x (Contiguous (Reg n)) e = refl
  lies_too x (Block wide (Imm v)) e = refl
  lies_too x (Block wide (Reg n)) e = refl

  byte_too : (x : List ℕ) (e k : ℕ) → byte_at l x i e k ≡ byte_at r x i e k
  byte_too x e k = ap (λ (z : ℤ). wrapℤ (z +ℤ pos k)) (lies_too x i.shape e)

-- A bench, and the same with other contents of the same lengths and other rights, where the step of either runs.
module _ (l : Lent) (w : ℕ) (b : Bench) (flash flash_rights ram ram_rights : List ℕ)
    (small : w < 2 ^ 32) (lengths : (length l.flash ≡ length flash) × (length b.ram ≡ length ram))
    (ran : (step_of l w b).report.number ≡ 0)
    (ran' : (step_of (lent_with l flash flash_rights ram_rights) w (bench_with b ram)).report.number ≡ 0) where
  abbrev l' : Lent
  l' = lent_with l flash flash_rights ram_rights

  abbrev b' : Bench
  b' = bench_with b ram

  abbrev s : Areas
  s = areas_in l b

  abbrev s' : Areas
  s' = areas_in l' b'

  fellow : (a : ℕ) {r r' : Area} → Both s s' r r' → Holds r a → OneOf s r × OneOf s' r' × Holds r' a
  fellow a flashes h = let u = h.1 in let e = lengths.0 in (in_flash, in_flash, (h.0, omega arith))
  fellow a rams h = let u = h.1 in let e = lengths.1 in (in_ram, in_ram, (h.0, omega arith))

  -- both are ready and can read, and what the one touches the other does
  ready : (a : ℕ) (t : Touched l w b a) → Ready l w b t.load × AllReadable l b t.load
  ready a t = ran_as l w b small t.load (ready_reads l w b t.load t.ready) ran

  ready' : (a : ℕ) (t : Touched l w b a) → Ready l' w b' t.load × AllReadable l' b' t.load
  ready' a t = ran_as l' w b' small t.load (ready_reads l w b t.load t.ready) ran'

  lies' : (a : ℕ) (t : Touched l w b a) → a ≡ byte_at l' b.scalars t.load t.element t.byte
  lies' a t = t.lies ∙ byte_too l flash flash_rights ram_rights t.load b.scalars t.element t.byte

  touched' : (a : ℕ) → Touched l w b a → Touched l' w b' a
  touched' a t =
      record {
        load = t.load;
        ready = (ready' a t).0;
        element = t.element;
        active = active_too l flash flash_rights ram_rights t.load t.load.shape t.element t.active;
        byte = t.byte;
        within = t.within;
        lies = lies' a t;
      }

  pub rights_needed : SameRights l w b l' b'
  rights_needed a t r r' q h =
      let f = fellow a q h in
      let own = right_in s (ready a t).0.defined.accepted.areas a f.0 h (touched_readable l w b small a t ran) in
      let own' = right_in s' (ready' a t).0.defined.accepted.areas a f.1 f.2 (touched_readable l' w b' small a (touched' a t) ran') in
      (λ _. own', λ _. own)

  -- with the same vectors afterwards, of areas that hold bytes, and a load that is ready on both:
  module _ (came : InTypes l w b) (came' : InTypes l' w b') (vectors : (step_of l w b).bench.vectors ≡ (step_of l' w b').bench.vectors)
      (i : Insn) (g : Ready l w b i × AllReadable l b i) (g' : Ready l' w b' i × AllReadable l' b' i) (e : ℕ) (active : Active l i e) where
    active' : Active l' i e
    active' = active_too l flash flash_rights ram_rights i i.shape e active

    -- the bytes of an active element, in either memory
    abbrev first : ℕ → ℕ
    first = byte l w b i g.0 g.1 came e

    abbrev second : ℕ → ℕ
    second = byte l' w b' i g'.0 g'.1 came' e

    holds_first : (j : ℕ) → j < m i → Contains s (byte_at l b.scalars i e j) (first j)
    holds_first j h = contains l w b i g.0 g.1 came e active j h

    holds_second : (j : ℕ) → j < m i → Contains s' (byte_at l' b.scalars i e j) (second j)
    holds_second j h = contains l' w b' i g'.0 g'.1 came' e active' j h

    same_number : little first 0 (m i) ≡ little second 0 (m i)
    same_number =
        let fine = means_in_range w i g.0.defined.reads in
        let t = taken l g.0.defined.accepted.allowed i i.shape fine.shape g.0.defined.long e active in
        let too = takes_too l flash flash_rights ram_rights i i.shape t.0 t.2 e t.4 in
        let x = (leaves l w b i g.0 g.1).lane t.0 t.2 e _ t.1 t.3 t.4 (value l w b i g.0 g.1 came e active) in
        let y = (leaves l' w b' i g'.0 g'.1).lane t.0 t.2 e _ t.1 t.3 too (value l' w b' i g'.0 g'.1 came' e active') in
        extended_tells i.element.signed (m i) (lane_bytes i) _ _ _ fine.narrower x
        (subst (λ (z : List ℕ). Extends i.element.signed (8 * m i) (8 * lane_bytes i) (little second 0 (m i))
        (lane_in l z (destination i t.0) (lane_bytes i) t.2)) (sym vectors) y)

    same_bytes : (j : ℕ) → j < m i → first j ≡ second j
    same_bytes j h =
        rw zero-add at (little_tells first second 0 0 (m i)
        (λ j u. rw zero-add (holds_first j u).4) (λ j u. rw zero-add (holds_second j u).4) same_number j h)

  pub bytes_needed : InTypes l w b → InTypes l' w b' → (step_of l w b).bench.vectors ≡ (step_of l' w b').bench.vectors → SameBytes l w b l' b'
  bytes_needed came came' vectors a t r r' q h =
      let f = fellow a q h in
      let g = ready a t in
      let g' = ready' a t in
      let j = t.byte in
      let c = holds_first came came' vectors t.load g g' t.element t.active j t.within in
      let d = holds_second came came' vectors t.load g g' t.element t.active j t.within in
      sym (contained_in s g.0.defined.accepted.areas a f.0 h _ _ t.lies c)
      ∙ same_bytes came came' vectors t.load g g' t.element t.active j t.within
      ∙ contained_in s' g'.0.defined.accepted.areas a f.1 f.2 _ _ (lies' a t) d

-- Of a bench whose step runs, and the same with other contents and other rights: demand 3's premise holds exactly when the other's step runs too and leaves
-- the same vectors.
pub premise_exactly : (l : Lent) (w : ℕ) (b : Bench) (flash flash_rights ram ram_rights : List ℕ)
    → let l' = lent_with l flash flash_rights ram_rights in let b' = bench_with b ram in
    (r r' : StepResult) (l₁ l₂ : Lent) (b₁ b₂ : Bench) → StepPromise l w b r l₁ b₁ → StepPromise l' w b' r' l₂ b₂
    → Same l b l' b' → Accepted l' b' → number_of r.answer ≡ 0
    → (SameRights l w b l' b' × SameBytes l w b l' b') ↔ ((number_of r'.answer ≡ 0) × (b₁.vectors ≡ b₂.vectors))
premise_exactly l w b flash flash_rights ram ram_rights r r' l₁ l₂ b₁ b₂ p p' same accepted' ran =
    let l' = lent_with l flash flash_rights ram_rights in
    let b' = bench_with b ram in
    let small = p.came.word in
    let told = sym (ap (λ (o : Outcome). o.report.number) p.ends) ∙ ran in
    let accepted = (ran_only l w b small told).1.defined.accepted in
    let lengths = (same_exactly l w b flash flash_rights ram ram_rights).0 same in
    let z = ap (λ (o : Outcome). o.bench.vectors) p.ends in
    let z' = ap (λ (o : Outcome). o.bench.vectors) p'.ends in
    let n' = ap (λ (o : Outcome). o.report.number) p'.ends in (
      λ h. (
        n' ∙ sym (ap (λ (q : Report). q.number) (same_report l b l' b' accepted accepted' same w small h.0)) ∙ told,
        z ∙ (same_after l b l' b' accepted accepted' same w small h.0 h.1).vectors ∙ sym z',
      ),
      λ h.
          let told' = sym n' ∙ h.0 in (
            rights_needed l w b flash flash_rights ram ram_rights small lengths told told',
            bytes_needed l w b flash flash_rights ram ram_rights small lengths told told' p.came p'.came (sym z ∙ h.1 ∙ z'),
          ),
    )
