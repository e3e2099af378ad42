-- One turn of `survey`'s loop, over any wishes and any answers: the walk over what is left goes on from the count so far.
use Rattle.std.proofs.Common.{if◌then◌else◌, ◌≡◌, ℕ, zero, suc, ◌+◌, ◌-◌, ◌<◌, ◌≤◌, Bool, true, false, ◌∷◌, Ok, Err, sym, ◌∙◌, sub-one, arith}
use native.Mathlib.Nat.{sub-zero}
use Rattle.ground.specs.Lists.{up_from}
use Rattle.memory.specs.declared.BadByte.{BadByte}
use Rattle.memory.specs.Elements.{Reading}
use Rattle.steps.specs.Answers.{fault_number, report_with}
use Rattle.steps.specs.Outcomes.{walk}

-- the elements below e are walked over, and `count` of them were read
pub record SoFar (want : ℕ → Bool) (answer : ℕ → Reading) (n count e : ℕ) : Type 0 where
  pub within : e ≤ n
  pub counts : count ≤ e
  pub walks : walk answer 0 (up_from want 0 n) ≡ walk answer count (up_from want e (n - e))

pub begun : (want : ℕ → Bool) (answer : ℕ → Reading) (n : ℕ) → SoFar want answer n 0 0
begun want answer n = record { within = omega arith; counts = omega arith; walks = rw sub-zero }

one_more : (want : ℕ → Bool) (e n : ℕ) → 0 < n → up_from want e n ≡ (let rest = up_from want (e + 1) (n - 1) in if want e then e ∷ rest else rest)
one_more want e zero h = absurd (omega arith)
one_more want e (suc n) h = rw sub-one

pub finished : {want : ℕ → Bool} {answer : ℕ → Reading} {n count e : ℕ} → SoFar want answer n count e → n ≤ e
    → report_with 0 count 0 0 ≡ walk answer 0 (up_from want 0 n)
finished {n = n} {e = e} s h =
    let z : n - e ≡ 0 = omega arith in
    sym (s.walks ∙ rw z)

-- a turn: element e is left to look at
module _ {want : ℕ → Bool} {answer : ℕ → Reading} {n count e : ℕ} (s : SoFar want answer n count e) (more : e < n) where
  next : up_from want e (n - e) ≡ (let rest = up_from want (e + 1) (n - (e + 1)) in if want e then e ∷ rest else rest)
  next =
      let k : n - e - 1 ≡ n - (e + 1) = omega arith in
      one_more want e (n - e) (omega arith) ∙ rw k

  -- it is not asked for
  pub pass_turn : want e ≡ false → SoFar want answer n count (e + 1)
  pass_turn h = record { within = omega arith; counts = let f = s.counts in omega arith; walks = s.walks ∙ rw (next, h) }

  -- it is read
  pub read_turn : want e ≡ true → (v : ℕ) → answer e ≡ Ok v → SoFar want answer n (count + 1) (e + 1)
  read_turn h v a = record { within = omega arith; counts = let f = s.counts in omega arith; walks = s.walks ∙ rw (next, h, a) }

  -- it has a bad byte
  pub fault_turn : want e ≡ true → (x : BadByte) → answer e ≡ Err x → report_with (fault_number x.fault) count e x.at.0 ≡ walk answer 0 (up_from want 0 n)
  fault_turn h x b = sym (s.walks ∙ rw (next, h, b))
