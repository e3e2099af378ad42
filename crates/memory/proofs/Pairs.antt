-- The areas that the statements speak of are the two that there are: `OneOf` is flash or RAM, and `Both` is flash with flash or RAM with RAM, and
-- nothing else. So a premise about every such pair asks something of these two pairs alone.
use Rattle.std.proofs.Common.{◌≡◌, ◌⊎◌, ◌↔◌, sym, refl, subst, subst₂, inl, inr, ⊎_elim}
use Rattle.memory.specs.Areas.{Area, Areas}
use Rattle.memory.specs.Said.{OneOf, in_flash, in_ram, Both, flashes, rams}

is_one : (m : Areas) {r : Area} → OneOf m r → (r ≡ m.flash) ⊎ (r ≡ m.ram)
is_one m in_flash = inl refl
is_one m in_ram = inr refl

pub one_of_exactly : (m : Areas) (r : Area) → OneOf m r ↔ ((r ≡ m.flash) ⊎ (r ≡ m.ram))
one_of_exactly m r = (is_one m, ⊎_elim (λ h. subst (OneOf m) (sym h) in_flash) (λ h. subst (OneOf m) (sym h) in_ram))

is_pair : (m n : Areas) {r r' : Area} → Both m n r r' → ((r ≡ m.flash) × (r' ≡ n.flash)) ⊎ ((r ≡ m.ram) × (r' ≡ n.ram))
is_pair m n flashes = inl (refl, refl)
is_pair m n rams = inr (refl, refl)

pub both_exactly : (m n : Areas) (r r' : Area) → Both m n r r' ↔ (((r ≡ m.flash) × (r' ≡ n.flash)) ⊎ ((r ≡ m.ram) × (r' ≡ n.ram)))
both_exactly m n r r' = (
  is_pair m n,
  ⊎_elim (λ h. subst₂ (Both m n) (sym h.0) (sym h.1) flashes) (λ h. subst₂ (Both m n) (sym h.0) (sym h.1) rams),
)
