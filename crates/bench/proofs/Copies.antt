-- One turn of the loop that repeats a block.
use Rattle.std.proofs.Common.{◌≡◌, ℕ, ◌+◌, ◌-◌, ◌%◌, ◌<◌, ◌≤◌, List, length, get_or, set, sym, ap, ◌∙◌, sub-add_cancel, arith, get_or-set_other, get_or-set_same, below_more}
use native.Mathlib.Nat.{add-mod_right}

pub copied_more : (dst dst₀ : List ℕ) (block i : ℕ) → 0 < block → block ≤ i → i < length dst
    → ((j : ℕ) → j < i → get_or dst j 0 ≡ get_or dst₀ (j % block) 0)
    → (j : ℕ) → j < i + 1 → get_or (set dst i (get_or dst (i - block) 0)) j 0 ≡ get_or dst₀ (j % block) 0
copied_more dst dst₀ block i some past h so_far =
    let back : (i - block) % block ≡ i % block = sym (add-mod_right (i - block) block) ∙ ap (λ (k : ℕ). k % block) (sub-add_cancel past) in
    below_more (λ (j : ℕ). get_or (set dst i (get_or dst (i - block) 0)) j 0 ≡ get_or dst₀ (j % block) 0) i
    (λ j l. let other : j ≡ i → ⊥ = omega arith in get_or-set_other dst i j _ 0 other ∙ so_far j l)
    (get_or-set_same dst i _ 0 h ∙ so_far (i - block) (omega arith) ∙ ap (λ (k : ℕ). get_or dst₀ k 0) back)
