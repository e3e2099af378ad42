-- The elements that a plan asks for are the scope of work's active elements, its lanes take what the scope says, and the SP check is
-- made when the scope says so.
use Rattle.std.specs.Prelude.{if◌then◌else◌}
use mathlib.Core.Path.{◌≡◌, refl, sym, ap, ◌∙◌}
use mathlib.Core.Bool.{Bool, true, false}
use mathlib.Core.List.{List}
use mathlib.Core.Logic.{◌↔◌}
use Prim.Native.Nat.{ℕ, ◌*◌, ◌/◌, ◌%◌, ◌^◌, ◌≤◌, ◌<◌}
use native.Mathlib.Nat.{mod-lt, mod-eq_of_lt, zero-mul, zero-div, div-lt_iff_lt-mul, mul_left_comm, div-div-eq-div-mul}
use native.Mathlib.Omega.{arith}
use lib.Dec.{ltb, lit<}
use lib.ListN.{drop}
use lib.Seq.{get_or-take, get_or-drop}
use borrow.Author.Tests.{eq-eqb, eqb-true, ltb-true, lt-ltb}
use Rattle.ground.specs.Lists.{any_below}
use Rattle.ground.proofs.Laws.{never, any_of, any_at, and_left, and_right, and_both}
use Rattle.ground.proofs.Sizes.{bytes_some, in_lanes, register_room}
use Rattle.ground.specs.Sizes.{bytes_of}
use Rattle.ground.specs.declared.Size.{Size}
use Rattle.steps.specs.Insns.{Insn, Shape, Replicate, ByElement, Contiguous, Block, Option, Some, None}
use Rattle.words.specs.Ranges.{ShapeInRange}
use Rattle.steps.specs.Benches.{Lent}
use Rattle.steps.specs.Terms.{block_bytes}
use Rattle.steps.specs.Plans.{spread_of, plan_with}
use Rattle.steps.specs.Lanes.{predicate_of, governing_bytes, bit_of, is_active, wanted, lane_takes, lane_element, checks_stack}
use Rattle.steps.specs.Said.{LengthAllowed, lane_bytes, N, Q, K, BitSet, ActiveAs, ChecksAs}
use Rattle.steps.specs.Demand1.{WideAs}
use Rattle.steps.specs.Demand2.{TakesAs}
use Rattle.steps.specs.declared.Plan.{Plan}

-- a block is of 16 or 32 bytes, and has a lane
pub block_bytes_lem : (wide : Bool) → (block_bytes wide % 8 ≡ 0) × (0 < block_bytes wide)
block_bytes_lem false = (refl, lit< tt)
block_bytes_lem true = (refl, lit< tt)

pub block_some : (wide : Bool) (s : Size) → 0 < block_bytes wide / bytes_of s
block_some wide s = let b = block_bytes_lem wide in (in_lanes s (block_bytes wide) b.0 0).1 (rw zero-mul b.1)

-- 64 bits (Q=0) or 128
eighth : (q : Bool) → (if q then 16 else 8) % 8 ≡ 0
eighth true = refl
eighth false = refl

replicated_bytes : (q : Bool) → (if q then 16 else 8) ≡ 8 * 2 ^ Q q
replicated_bytes true = refl
replicated_bytes false = refl

-- a bit of the governing predicate is a bit of the file
bit_set : (l : Lent) (g : Option ℕ) (n : ℕ) → n / 8 < l.settings.vl / 64
    → (bit_of (predicate_of (l.settings.vl / 64) l.predicates g) n ≡ true) ↔ BitSet l g n
unfolding bit_of
bit_set l None n there = (λ h. never h (simp zero-div), λ h. absurd h)
bit_set l (Some g) n there =
    let k = l.settings.vl / 64 in
    let in_file = get_or-take k (drop (g * k) l.predicates) _ 0 there ∙ get_or-drop (g * k) l.predicates _ 0 in (
      λ h. ap (λ (b : ℕ). b / 2 ^ (n % 8) % 2) (sym in_file) ∙ eqb-true _ 1 h,
      λ h. eq-eqb _ 1 (ap (λ (b : ℕ). b / 2 ^ (n % 8) % 2) in_file ∙ h),
    )

module _ (l : Lent) (p : Plan) where
  abbrev On : ℕ → Type 0
  On e = BitSet l p.governing (e * bytes_of p.lane)

  abbrev There : ℕ → Type 0
  There e = e * bytes_of p.lane / 8 < l.settings.vl / 64

  lane_active : (e : ℕ) → There e → (is_active p (governing_bytes l p) e ≡ true) ↔ On e
  unfolding is_active governing_bytes
  lane_active e there = bit_set l p.governing (e * bytes_of p.lane) there

  -- one of the first n lanes is active
  some_active : (n : ℕ) → ((e : ℕ) → e < n → There e) → (any_below (is_active p (governing_bytes l p)) n ≡ true) ↔ ((e : ℕ) × (e < n) × On e)
  some_active n there = (
    λ h. let r = any_at (is_active p (governing_bytes l p)) n h in (r.0, r.1, (lane_active r.0 (there r.0 r.1)).0 r.2),
    λ r. any_of (is_active p (governing_bytes l p)) n r.0 r.1 ((lane_active r.0 (there r.0 r.1)).1 r.2),
  )

module _ (l : Lent) (allowed : LengthAllowed l.settings.vl) (i : Insn) where
  -- the lanes of the register are those that start before bit VL
  pub in_register : (e : ℕ) → (e < N l i) ↔ (e * (8 * lane_bytes i) < l.settings.vl)
  in_register e =
      let whole : l.settings.vl / 8 % 8 ≡ 0 = omega (arith, allowed.multiple) in
      let c : (e < N l i) ↔ (e * lane_bytes i < l.settings.vl / 8) = rw div-div-eq-div-mul at (in_lanes i.element.lane (l.settings.vl / 8) whole e) in (
        λ h. rw (mul_left_comm e 8 (lane_bytes i)) (omega (arith, c.0 h)),
        λ h. c.1 (let q = rw (mul_left_comm e 8 (lane_bytes i)) at h in omega (arith, allowed.multiple)),
      )

  -- a lane of a block is one of them
  pub own_lane : (wide : Bool) → (wide ≡ true → 256 ≤ l.settings.vl) → (e : ℕ) → e < K wide i → e < N l i
  own_lane wide long e h =
      (in_register e).1 (rw (mul_left_comm e 8 (lane_bytes i)) (go wide long ((in_lanes i.element.lane (block_bytes wide) (block_bytes_lem wide).0 e).0 h)))
    where
      go : (wide : Bool) → (wide ≡ true → 256 ≤ l.settings.vl) → e * lane_bytes i < block_bytes wide → 8 * (e * lane_bytes i) < l.settings.vl
      go false w q = omega (arith, allowed.least)
      go true w q = let g = w refl in omega arith

module _ (l : Lent) (x : List ℕ) (allowed : LengthAllowed l.settings.vl) (i : Insn) where
  abbrev plan : Shape → Plan
  plan s = plan_with i (spread_of l.settings.vl x i s)

  -- a lane of the register has its bit in the predicate's VL/64 bytes, and so has a lane of a block
  each_lane : (e : ℕ) → e < N l i → e * lane_bytes i / 8 < l.settings.vl / 64
  each_lane e h = omega (arith, register_room l.settings.vl (lane_bytes i) e h, bytes_some i.element.lane, allowed.multiple)

  each_own : (wide : Bool) → (wide ≡ true → 256 ≤ l.settings.vl) → (e : ℕ) → e < K wide i → e * lane_bytes i / 8 < l.settings.vl / 64
  each_own wide long e h = each_lane e (own_lane l allowed i wide long e h)

  own_some : (wide : Bool) → 0 < K wide i
  own_some wide = block_some wide i.element.lane

  abbrev Asked : Shape → ℕ → Type 0
  Asked s e = (e < (plan s).elements) × (wanted (plan s) (governing_bytes l (plan s)) e ≡ true)

  pub active_exactly : (s : Shape) → (WideAs s → 256 ≤ l.settings.vl) → (e : ℕ) → Asked s e ↔ ActiveAs s l i e
  unfolding spread_of wanted
  active_exactly (Replicate q back) long e = (λ h. h.0, λ h. (h, refl))
  active_exactly (ByElement imm6) long e =
      let s = some_active l (plan (ByElement imm6)) (N l i) each_lane in
      (λ h. let k = h.0 in (omega arith, s.0 h.1), λ h. let k = h.0 in (omega arith, s.1 h.1))
  active_exactly (Contiguous o) long e =
      let s = lane_active l (plan (Contiguous o)) e in
      (λ h. (h.0, (s (each_lane e h.0)).0 h.1), λ h. (h.0, (s (each_lane e h.0)).1 h.1))
  active_exactly (Block wide o) long e =
      let s = lane_active l (plan (Block wide o)) e in
      (λ h. (h.0, (s (each_own wide long e h.0)).0 h.1), λ h. (h.0, (s (each_own wide long e h.0)).1 h.1))

  -- the SP check is made exactly when the scope, with request Two, says so
  pub checks_exactly : (s : Shape) → (checks_stack (plan s) (governing_bytes l (plan s)) ≡ true) ↔ ChecksAs s l i
  unfolding spread_of checks_stack
  checks_exactly (Replicate q back) = (λ h. tt, λ h. refl)
  checks_exactly (ByElement imm6) = some_active l (plan (ByElement imm6)) (N l i) each_lane
  checks_exactly (Contiguous o) = some_active l (plan (Contiguous o)) (N l i) each_lane
  checks_exactly (Block wide o) = some_active l (plan (Block wide o)) (N l i) each_lane

  -- lane k of destination j takes element e of the plan exactly where the scope says
  pub takes_there : (s : Shape) → ShapeInRange i s → (WideAs s → 256 ≤ l.settings.vl) → (j k e : ℕ) → k < N l i → TakesAs s l i j k e
      → (lane_takes (plan s) (governing_bytes l (plan s)) k ≡ true) × (lane_element (plan s) j k ≡ e)
  unfolding spread_of lane_takes lane_element
  takes_there (Replicate q back) fine long j k e h t =
      let n : ℕ = if q then 16 else 8 in
      let r = replicated_bytes q in
      (rw (lt-ltb k (n / lane_bytes i) ((in_lanes i.element.lane n (eighth q) k).1 (rw r t.1))), sym t.0)
  takes_there (ByElement imm6) fine long j k e h t =
      (and_both (ltb k (N l i)) _ (lt-ltb k _ h) ((lane_active l (plan (ByElement imm6)) k (each_lane k h)).1 t.1), sym t.0)
  takes_there (Contiguous o) fine long j k e h t =
      let on = (lane_active l (plan (Contiguous o)) k (each_lane k h)).1 t.1 in
      (and_both (ltb k (N l i)) _ (lt-ltb k _ h) (rw (mod-eq_of_lt h) on), mod-eq_of_lt h ∙ sym t.0)
  takes_there (Block wide o) fine long j k e h t = (
    and_both (ltb k (plan (Block wide o)).filled) _ (lt-ltb k _ ((div-lt_iff_lt-mul (own_some wide)).0 t.1))
        ((lane_active l (plan (Block wide o)) (k % K wide i) (each_own wide long _ (mod-lt k (own_some wide)))).1 t.2),
    sym t.0,
  )

  pub there_takes : (s : Shape) → ShapeInRange i s → (WideAs s → 256 ≤ l.settings.vl) → (j k : ℕ) → k < N l i
      → lane_takes (plan s) (governing_bytes l (plan s)) k ≡ true → TakesAs s l i j k (lane_element (plan s) j k)
  unfolding spread_of lane_takes lane_element
  there_takes (Replicate q back) fine long j k h t =
      let n : ℕ = if q then 16 else 8 in
      let r = replicated_bytes q in
      (refl, rw r at ((in_lanes i.element.lane n (eighth q) k).0 (ltb-true k _ (and_left (ltb k (n / lane_bytes i)) _ t))))
  there_takes (ByElement imm6) fine long j k h t =
      (refl, (lane_active l (plan (ByElement imm6)) k (each_lane k h)).0 (and_right (ltb k (N l i)) _ t))
  there_takes (Contiguous o) fine long j k h t =
      (mod-eq_of_lt h, (lane_active l (plan (Contiguous o)) k (each_lane k h)).0 (rw (mod-eq_of_lt h) at (and_right (ltb k (N l i)) _ t)))
  there_takes (Block wide o) fine long j k h t = (
    refl,
    (div-lt_iff_lt-mul (own_some wide)).1 (ltb-true k _ (and_left (ltb k (plan (Block wide o)).filled) _ t)),
    (lane_active l (plan (Block wide o)) (k % K wide i) (each_own wide long _ (mod-lt k (own_some wide)))).0
        (and_right (ltb k (plan (Block wide o)).filled) _ t),
  )

  -- and that element is active
  pub takes_active : (s : Shape) (j k e : ℕ) → j < i.registers → k < N l i → TakesAs s l i j k e → ActiveAs s l i e
  takes_active (Replicate q back) j k e d h t = rw t.0 d
  takes_active (ByElement imm6) j k e d h t = (t.0, (k, h, t.1))
  takes_active (Contiguous o) j k e d h t = rw t.0 (h, t.1)
  takes_active (Block wide o) j k e d h t = rw t.0 (mod-lt k (own_some wide), t.2)
