-- The vector file, with one destination more filled: the part that was lent on is that register, and comes back as the definition has it.
use Rattle.std.proofs.Common.{◌≡◌, ℕ, ◌+◌, ◌-◌, ◌*◌, ◌<◌, ◌≤◌, List, ◌++◌, length, take, drop, ap, ◌∙◌, mod-lt, add-one, lit<, lit≤}
use Rattle.ground.specs.Lists.{replaced}
use Rattle.ground.proofs.Fills.{back_in, part_length}
use Rattle.ground.proofs.Laws.{length_listed, length_replaced}
use Rattle.memory.specs.Elements.{Reading}
use Rattle.steps.specs.Lanes.{destinations_by, destinations_in, destination_of}
use Rattle.steps.specs.Outcomes.{register_byte, register_of, vectors_after}
use Rattle.steps.specs.Inside.{PlanInRange}
use Rattle.steps.specs.declared.Plan.{Plan}
use Rattle.steps.specs.declared.Rule.{Rule}
use Rattle.steps.specs.declared.Rule.TheVariants.{Always, LaneBit, ElementBit}
use Rattle.bench.proofs.Small.{slot}

-- a destination's place in a file of 32 registers
pub in_file : (p : Plan) (j n : ℕ) {r m : ℕ} → r ≡ destination_of p j → m ≡ 32 * n → r * n + n ≤ m
unfolding destination_of
in_file p j n {r} e long = rw long (slot r 32 n (rw e (mod-lt _ (lit< tt))))

-- a register's place in a file of 32
pub in_32 : (r n : ℕ) → r < 32 → r * n + n ≤ 32 * n
in_32 r n h = slot r 32 n h

-- there are no more destinations than elements
pub destinations_few : (p : Plan) → PlanInRange p → destinations_in p ≤ 256
unfolding destinations_in
destinations_few p sound = by p.rule
  where
    by : (r : Rule) → destinations_by r p.elements ≤ 256
    by Always = sound.elements
    by LaneBit = lit≤ tt
    by ElementBit = lit≤ tt

-- the next destination is filled
pub next_after : (answer : ℕ → Reading) (p : Plan) (pred z₀ z z' : List ℕ) (n j : ℕ) → z ≡ vectors_after answer p pred n z₀ j
    → z' ≡ replaced z (destination_of p j * n) n (register_of answer p pred j n) → z' ≡ vectors_after answer p pred n z₀ (j + 1)
unfolding vectors_after
next_after answer p pred z₀ z z' n j so_far h = rw (add-one, ← so_far) h

module _ (answer : ℕ → Reading) (p : Plan) (pred z₀ z : List ℕ) (n j r : ℕ) (fits : r * n + n ≤ length z)
    {ys : List ℕ} (filled : ys ≡ register_of answer p pred j (length (take (r * n + n - r * n) (drop (r * n) z)))) where
  abbrev z' : List ℕ
  z' = take (r * n) z ++ (ys ++ drop (r * n + n - r * n) (drop (r * n) z))

  back : z' ≡ replaced z (r * n) n (register_of answer p pred j n)
  back = back_in z ys _ (r * n) n (filled ∙ ap (register_of answer p pred j) (part_length z (r * n) n fits))

  pub as_long : length z' ≡ length z
  unfolding register_of
  as_long = ap length back ∙ length_replaced z (r * n) n _ (length_listed (register_byte answer p pred j) 0 n) fits

  pub destination_filled : r ≡ destination_of p j → z' ≡ replaced z (destination_of p j * n) n (register_of answer p pred j n)
  destination_filled at = rw (← at) back

  pub one_more : r ≡ destination_of p j → z ≡ vectors_after answer p pred n z₀ j → z' ≡ vectors_after answer p pred n z₀ (j + 1)
  one_more at so_far = next_after answer p pred z₀ z z' n j so_far (destination_filled at)
