-- Where an element lies: the plan's start + e × size is the scope of work's own formula, in every family; and which registers the destinations are.
use mathlib.Core.List.{List}
use mathlib.Core.Path.{◌≡◌, refl, sym, ap, ◌∙◌}
use Prim.Native.Nat.{ℕ, zero, suc, ◌+◌, ◌-◌, ◌*◌, ◌%◌, ◌≤◌, ◌<◌}
use native.Mathlib.Nat.{add-zero, zero-mul, mul_assoc, add-mul, suc-mul}
use native.Mathlib.Omega.{arith}
use mathlib.Core.Logic.{⊎_elim}
use lib.IntN.{ℤ, pos, negsuc, sub_ℕ, neg_ℤ, ◌+ℤ◌, ◌*ℤ◌, suc_ℤ-*ℤ, +ℤ_idr, +ℤ-suc_ℤ, +ℤ_assoc}
use lib.Dec.{ltb, eqb}
use borrow.Author.Tests.{lt-ltb, le-ltb, ltb-true, ltb-false, eqb-true, eqb-false}
use Rattle.ground.proofs.Laws.{true_or_false, if_cases}
use Rattle.steps.specs.Insns.{Insn, Shape, Replicate, ByElement, Contiguous, Block, Imm, Reg}
use Rattle.memory.proofs.Moves.{wrap_on}
use Rattle.memory.specs.Addresses.{wrap, wrapℤ, plus_of, moved_of}
use Rattle.steps.specs.Benches.{Lent}
use Rattle.steps.specs.Terms.{scalar, signed4, block_bytes}
use Rattle.steps.specs.Plans.{spread_of, plan_with, plan_of}
use Rattle.steps.specs.Lanes.{element_at}
use Rattle.steps.specs.Said.{m, N, ActiveAs, Active, offs, lies_as, lies, byte_at}
use Rattle.steps.specs.Demand2.{destination}

-- (s + e) × m
distributed : (s : ℤ) (e k : ℕ) → (s +ℤ pos e) *ℤ pos k ≡ s *ℤ pos k +ℤ pos (e * k)
distributed s zero k = simp (+ℤ_idr, zero-mul)
distributed s (suc e) k =
    ap (λ (z : ℤ). z *ℤ pos k) (+ℤ-suc_ℤ s (pos e))
    ∙ suc_ℤ-*ℤ (s +ℤ pos e) (pos k)
    ∙ ap (λ (z : ℤ). z +ℤ pos k) (distributed s e k)
    ∙ +ℤ_assoc (s *ℤ pos k) (pos (e * k)) (pos k)
    ∙ ap (λ (n : ℕ). s *ℤ pos k +ℤ pos n) (sym (suc-mul e k))

-- (s × n) × m, for a block's bytes
negated : (n k : ℕ) → neg_ℤ (pos n) *ℤ pos k ≡ neg_ℤ (pos (n * k))
negated zero k = simp zero-mul
negated (suc n) k = refl

grouped : (s : ℤ) (n k : ℕ) → s *ℤ pos n *ℤ pos k ≡ s *ℤ pos (n * k)
grouped (pos v) n k = ap pos (mul_assoc v n k)
grouped (negsuc u) n k = negated (suc u * n) k ∙ ap (λ (x : ℕ). neg_ℤ (pos x)) (mul_assoc (suc u) n k)

-- a start, and e elements of k bytes on from it
pub on_from : (a : ℕ) (d : ℤ) (n : ℕ) → wrapℤ (pos a +ℤ d +ℤ pos n) ≡ plus_of (moved_of a d) n
unfolding moved_of
on_from a d n = wrap_on (pos a +ℤ d) n

-- an immediate counts blocks of n elements of k bytes
pub by_immediate : (a : ℕ) (s : ℤ) (n e k : ℕ) → plus_of (moved_of a (s *ℤ pos (n * k))) (e * k) ≡ wrapℤ (pos a +ℤ (s *ℤ pos n +ℤ pos e) *ℤ pos k)
by_immediate a s n e k =
    sym (on_from a (s *ℤ pos (n * k)) (e * k))
    ∙ ap wrapℤ (+ℤ_assoc (pos a) (s *ℤ pos (n * k)) (pos (e * k)))
    ∙ ap (λ (z : ℤ). wrapℤ (pos a +ℤ z)) (ap (λ (z : ℤ). z +ℤ pos (e * k)) (sym (grouped s n k)) ∙ sym (distributed (s *ℤ pos n) e k))

-- a scalar counts elements of k bytes
pub by_register : (a x e k : ℕ) → plus_of (wrap (a + x * k)) (e * k) ≡ wrap (a + (x + e) * k)
by_register a x e k = rw (add-mul x e k) (omega arith)

-- the first of a single read
pub at_first : (a e k : ℕ) → e ≡ 0 → plus_of a (e * k) ≡ wrap a
at_first a e k h = rw (h, zero-mul, add-zero)

-- before read e, so many reads were added up
pub offs_sum : (i : Insn) (e : ℕ) → e * m i ≡ offs i e
offs_sum i zero = zero-mul (m i)
offs_sum i (suc e) = suc-mul e (m i) ∙ ap (λ (n : ℕ). n + m i) (offs_sum i e)

module _ (l : Lent) (x : List ℕ) (i : Insn) where
  -- every active element lies where the scope of work says
  element_lies : (s : Shape) (e : ℕ) → ActiveAs s l i e → element_at (plan_with i (spread_of l.settings.vl x i s)) e ≡ wrapℤ (lies_as s l x i e)
  unfolding element_at spread_of
  element_lies (Replicate q back) e a = ap (plus_of (scalar x i.base)) (offs_sum i e)
  element_lies (ByElement imm6) e a = at_first (wrap (scalar x i.base + imm6 * m i)) e _ a.0 ∙ omega arith
  element_lies (Contiguous (Imm v)) e a = by_immediate (scalar x i.base) (signed4 v) (N l i) e (m i)
  element_lies (Contiguous (Reg r)) e a = by_register (scalar x i.base) (scalar x r) e (m i)
  element_lies (Block wide (Imm v)) e a = sym (on_from (scalar x i.base) (signed4 v *ℤ pos (block_bytes wide)) _)
  element_lies (Block wide (Reg r)) e a = by_register (scalar x i.base) (scalar x r) e (m i)

  -- and each of its bytes
  pub byte_lies : (e k : ℕ) → Active l i e → plus_of (element_at (plan_of l.settings.vl x i) e) k ≡ byte_at l x i e k
  byte_lies e k a = sym (wrap_on (lies l x i e) k ∙ ap (λ (n : ℕ). plus_of n k) (sym (element_lies i.shape e a)))

-- a field of four bits as a number from -8 to 7: 8 more than it is the field and 8, modulo 16
pub signed_field : (v : ℕ) → v < 16 → signed4 v +ℤ pos 8 ≡ pos ((v + 8) % 16)
unfolding signed4
signed_field v h =
    ⊎_elim
    (λ t. let k = ltb-true v 8 t in rw t (ap pos (omega arith)))
    (λ t. let k = ltb-false v 8 t in rw (t, lt-ltb v 16 h) (below (omega arith)))
    (true_or_false (ltb v 8))
  where
    below : 8 ≤ v → sub_ℕ 8 (suc (16 - suc v)) ≡ pos ((v + 8) % 16)
    below k = rw (le-ltb 8 (suc (16 - suc v)) (omega arith)) (ap pos (omega arith))

-- "registers t, t+1 and on, 31 followed by 0": register t + j modulo 32
pub destination_is : (i : Insn) → i.target < 32 → (j : ℕ) → destination i j ≡ (i.target + j) % 32
destination_is i h zero = omega arith
destination_is i h (suc j) =
    let r = (i.target + j) % 32 in
    rw (destination_is i h j) (if_cases (λ (n : ℕ). n ≡ (i.target + suc j) % 32) (eqb r 31) 0 (suc r)
    (λ t. let e = eqb-true r 31 t in omega arith) (λ t. let ne = eqb-false r 31 t in omega arith))

-- .. so that no register is a destination twice
pub destinations_apart : (i : Insn) → i.target < 32 → (j k : ℕ) → j < k → k < 32 → destination i j ≡ destination i k → ⊥
destinations_apart i h j k less few e =
    let same : (i.target + j) % 32 ≡ (i.target + k) % 32 = sym (destination_is i h j) ∙ e ∙ destination_is i h k in omega arith
