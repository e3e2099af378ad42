-- Demand 2's own words leave nothing open: two benches of which `Leaves` holds are the same to the last byte and number. So it is
-- document 01's statement, and not only the definition, that determines what a load that ran leaves.
use Rattle.std.specs.Prelude.{Option, Some, None}
use Rattle.std.proofs.lemmas.Option.{none-some}
use mathlib.Core.Path.{◌≡◌, refl, sym, ap, ◌∙◌}
use mathlib.Core.Bool.{Bool, true, false}
use mathlib.Core.Logic.{⊎_elim}
use Prim.Native.Nat.{ℕ, ◌+◌, ◌-◌, ◌*◌, ◌/◌, ◌%◌, ◌^◌, ◌<◌}
use native.Mathlib.Nat.{mod-lt, div-add-mod', div-lt_iff_lt-mul, add_assoc}
use native.Mathlib.Omega.{arith}
use lib.Dec.{eqb, ltb}
use lib.ListN.{get_or}
use lib.Seq.{ext_get_or}
use borrow.Author.Tests.{eq-eqb, eqb-true, eqb-false, ltb-true, ltb-false}
use Rattle.ground.proofs.Laws.{true_or_false, never, only_one, any_of, any_at, little_tells}
use Rattle.ground.specs.Lists.{any_below, little}
use Rattle.ground.proofs.Sizes.{bytes_some, register_room, register_lanes}
use Rattle.words.proofs.Ranges.{means_in_range}
use Rattle.steps.specs.Insns.{Insn}
use Rattle.memory.specs.Addresses.{wrap}
use Rattle.memory.specs.Areas.{Area}
use Rattle.memory.specs.Bytes.{look_of}
use Rattle.memory.specs.Said.{OneOf, in_flash, in_ram}
use Rattle.memory.specs.Troubles.{byte_found}
use Rattle.memory.proofs.Looks.{right_byte}
use Rattle.steps.specs.Benches.{Lent, Bench, InTypes, areas_in}
use Rattle.steps.specs.Terms.{scalar}
use Rattle.steps.specs.Plans.{plan_of}
use Rattle.steps.specs.Lanes.{governing_bytes, lane_takes, lane_element}
use Rattle.steps.specs.Said.{m, lane_bytes, N, Active, byte_at}
use Rattle.steps.specs.Demand1.{Ready, AllReadable}
use Rattle.steps.specs.Demand2.{destination, IsDestination, Takes, lane_in, Extends, Contains, ElementValue, WrittenBack, Leaves}
use Rattle.steps.specs.declared.Plan.{Plan}
use Rattle.steps.proofs.Fields.{adds_back, back_adds}
use Rattle.steps.proofs.Actives.{takes_there, there_takes, takes_active}

-- an extended number is one number
extended_once : (signed : Bool) (bits lane v x y : ℕ) → Extends signed bits lane v x → Extends signed bits lane v y → x ≡ y
extended_once false bits lane v x y p q = only_one p q
extended_once true bits lane v x y p q =
    ⊎_elim
    (λ t. let h = ltb-true v (2 ^ (bits - 1)) t in only_one (p.0 h) (q.0 h))
    (λ t. let h = ltb-false v (2 ^ (bits - 1)) t in omega (arith, p.1 h, q.1 h))
    (true_or_false (ltb v (2 ^ (bits - 1))))

module _ (l : Lent) (w : ℕ) (b : Bench) (i : Insn) (ready : Ready l w b i) (all : AllReadable l b i) (came : InTypes l w b) where
  abbrev plan : Plan
  plan = plan_of l.settings.vl b.scalars i

  abbrev n : ℕ
  n = l.settings.vl / 8

  -- every number of an area is a byte
  octets : {r : Area} → OneOf (areas_in l b) r → (j : ℕ) → get_or r.bytes j 0 < 256
  octets in_flash = came.flash
  octets in_ram = came.ram

  -- the bytes of an active element
  abbrev pub byte : ℕ → ℕ → ℕ
  byte e j = byte_found (look_of (areas_in l b) (byte_at l b.scalars i e j))

  pub contains : (e : ℕ) → Active l i e → (j : ℕ) → j < m i → Contains (areas_in l b) (byte_at l b.scalars i e j) (byte e j)
  contains e q j h =
      let c = all e q j h in
      let v = ap byte_found (right_byte (areas_in l b) ready.defined.accepted.areas _ c.1 c.2 c.3) in
      (c.0, c.1, c.2, v, rw v (octets c.1 _))

  pub value : (e : ℕ) → Active l i e → ElementValue l b i e (little (byte e) 0 (m i))
  value e q = record { byte = byte e; contained = contains e q; value = refl }

  -- the base, where it is written back
  abbrev Back : ℕ → Type 0
  Back = WrittenBack b.scalars i

  module _ (l₁ l₂ : Lent) (b₁ b₂ : Bench) (p : Leaves l b i l₁ b₁) (q : Leaves l b i l₂ b₂) where
    -- lane k of destination j
    same_lane : (j k : ℕ) → j < i.registers → k < N l i
        → lane_in l b₁.vectors (destination i j) (lane_bytes i) k ≡ lane_in l b₂.vectors (destination i j) (lane_bytes i) k
    same_lane j k d h =
        let a = ready.defined.accepted in
        let long = ready.defined.long in
        let fine = means_in_range w i ready.defined.reads in
        ⊎_elim
        (λ t.
        let e = lane_element plan j k in
        let u = there_takes l b.scalars a.allowed i i.shape fine.shape long j k h t in
        let v = value e (takes_active l b.scalars a.allowed i i.shape j k e d h u) in
        extended_once i.element.signed _ _ _ _ _ (p.lane j k e _ d h u v) (q.lane j k e _ d h u v))
        (λ t.
        let none : (e : ℕ) → Takes l i j k e → ⊥ =
        λ e u. never (takes_there l b.scalars a.allowed i i.shape fine.shape long j k e h u).0 t in
        only_one (p.zero j k d h none) (q.zero j k d h none))
        (true_or_false (lane_takes plan (governing_bytes l plan) k))

    -- byte c of destination j is a digit of its lane
    in_lane : (j : ℕ) → j < i.registers → (c : ℕ) → c < n → get_or b₁.vectors (destination i j * n + c) 0 ≡ get_or b₂.vectors (destination i j * n + c) 0
    in_lane j d c h =
        let t = destination i j * n in
        let k = c / lane_bytes i in
        let some = bytes_some i.element.lane in
        let whole = register_lanes i.element.lane l.settings.vl ready.defined.accepted.allowed.multiple in
        let o : k < N l i = (div-lt_iff_lt-mul some).1 (rw whole h) in
        let there : (x : ℕ) → x < lane_bytes i → k * lane_bytes i + x < n = λ x u. omega (arith, register_room l.settings.vl (lane_bytes i) k o) in
        let at : t + k * lane_bytes i + c % lane_bytes i ≡ t + c = omega (arith, div-add-mod' c (lane_bytes i)) in
        rw at at (little_tells (λ x. get_or b₁.vectors x 0) (λ x. get_or b₂.vectors x 0) (t + k * lane_bytes i) (t + k * lane_bytes i) (lane_bytes i)
        (λ x u. rw add_assoc (p.bytes _ (j, d, refl) (k * lane_bytes i + x) (there x u)))
        (λ x u. rw add_assoc (q.bytes _ (j, d, refl) (k * lane_bytes i + x) (there x u)))
        (same_lane j k d o) (c % lane_bytes i) (mod-lt c some))

    -- a register is one of the destinations, or another
    same_register : (r c : ℕ) → c < n → get_or b₁.vectors (r * n + c) 0 ≡ get_or b₂.vectors (r * n + c) 0
    same_register r c h =
        let is : ℕ → Bool = λ j. eqb r (destination i j) in
        ⊎_elim
        (λ t. let d = any_at is i.registers t in rw (eqb-true r _ d.2) (in_lane d.0 d.1 c h))
        (λ t.
        let none : IsDestination i r → ⊥ = λ d. never (any_of is i.registers d.0 d.1 (eq-eqb r _ d.2)) t in
        only_one (p.registers r none c h) (q.registers r none c h))
        (true_or_false (any_below is i.registers))

    same_byte : (j : ℕ) → get_or b₁.vectors j 0 ≡ get_or b₂.vectors j 0
    same_byte j =
        let some : 0 < n = let k = ready.defined.accepted.allowed.least in omega arith in
        let at : j / n * n + j % n ≡ j = div-add-mod' j n in
        rw at at (same_register (j / n) (j % n) (mod-lt j some))

    -- a scalar is PC, the base where it is written back, or another
    same_other : (k : ℕ) → (k ≡ 32 → ⊥) → scalar b₁.scalars k ≡ scalar b₂.scalars k
    same_other k pc = go plan.back refl
      where
        go : (back : Option ℕ) → plan.back ≡ back → scalar b₁.scalars k ≡ scalar b₂.scalars k
        go None t =
            let kept : (v : ℕ) → Back v → k ≡ i.base → ⊥ =
            λ v h e. none-some h.added (sym t ∙ adds_back l.settings.vl b.scalars i i.shape h.added h.adds) in
            only_one (p.others k pc kept) (q.others k pc kept)
        go (Some a) t =
            let v : Back (wrap (scalar b.scalars i.base + a)) =
            record { added = a; adds = back_adds l.settings.vl b.scalars i i.shape a t; sum = refl } in
            ⊎_elim
            (λ u. let e = eqb-true k i.base u in rw e (only_one (p.base _ v) (q.base _ v)))
            (λ u. let ne = eqb-false k i.base u in only_one (p.others k pc (λ a h e. ne e)) (q.others k pc (λ a h e. ne e)))
            (true_or_false (eqb k i.base))

    same_scalar : (k : ℕ) → scalar b₁.scalars k ≡ scalar b₂.scalars k
    same_scalar k =
        ⊎_elim (λ t. let e = eqb-true k 32 t in rw e (only_one p.pc q.pc)) (λ t. same_other k (eqb-false k 32 t)) (true_or_false (eqb k 32))

    pub determined : (l₁ ≡ l₂) × (b₁ ≡ b₂)
    determined =
        let z = ext_get_or 0 b₁.vectors b₂.vectors (only_one p.vectors q.vectors) (λ j _. same_byte j) in
        let x = ext_get_or 0 b₁.scalars b₂.scalars (only_one p.scalars q.scalars) (λ k _. same_scalar k) in
        (only_one p.lent q.lent, λ j. record { vectors = z j; scalars = x j; ram = only_one p.ram q.ram j })
