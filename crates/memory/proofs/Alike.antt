-- Two memories whose areas lie at the same places, at an address with the same read right in both: a load finds a byte in both, or the
-- same trouble; and the same byte, where the byte there is the same. Rights and bytes elsewhere do not matter.
use Rattle.std.proofs.Common.{◌≡◌, ℕ, ◌+◌, ◌-◌, ◌<◌, ◌≤◌, ◌⊎◌, ◌↔◌, Ok, Err, get_or, sym, refl, ap, ◌∙◌, inl, inr, ⊎_elim, arith}
use Rattle.memory.specs.declared.Fault.{Fault}
use Rattle.memory.specs.declared.Fault.TheVariants.{Nowhere, Denied}
use Rattle.memory.specs.Areas.{Area, Areas}
use Rattle.memory.specs.Bytes.{Cell, look_of}
use Rattle.memory.specs.Said.{Holds, Right, AreasAccepted, OneOf, in_flash, in_ram, SamePlaces, Both, flashes, rams}
use Rattle.memory.specs.Troubles.{trouble_at}
use Rattle.memory.proofs.Looks.{nowhere_exactly, denied_exactly, byte_exactly, right_byte, no_right_denied}

-- the same bounds hold the same addresses
held : {f f' n n' a : ℕ} → f ≡ f' → n ≡ n' → (f ≤ a) × (a < f + n) → (f' ≤ a) × (a < f' + n')
held p q h = let u = h.0 in let v = h.1 in (omega arith, omega arith)

module _ (m n : Areas) (accepted : AreasAccepted m) (accepted' : AreasAccepted n) (same : SamePlaces m n) (a : ℕ)
    (right : (r r' : Area) → Both m n r r' → Holds r a → Right r a ↔ Right r' a) where
  -- an area's fellow holds the same addresses
  fellow : {r : Area} → OneOf m r → Holds r a → (r' : Area) × OneOf n r' × Both m n r r' × Holds r' a
  fellow in_flash h = (n.flash, in_flash, flashes, held same.flash_start same.flash_length h)
  fellow in_ram h = (n.ram, in_ram, rams, held same.ram_start same.ram_length h)

  Alike : Type 0
  Alike =
      ((r r' : Area) × Both m n r r' × Holds r a
      × (look_of m a ≡ Ok (get_or r.bytes (a - r.start) 0))
      × (look_of n a ≡ Ok (get_or r'.bytes (a - r'.start) 0)))
      ⊎ ((f : Fault) × (look_of m a ≡ Err f) × (look_of n a ≡ Err f))

  alike : Alike
  unfolding Alike
  alike = go (look_of m a) refl
    where
      go : (c : Cell) → look_of m a ≡ c → Alike
      go (Ok v) h =
          let e = (byte_exactly m accepted a v).0 h in
          let f = fellow e.1 e.2 in
          inl (e.0, f.0, f.2, e.2, right_byte m accepted a e.1 e.2 e.3, right_byte n accepted' a f.1 f.3 ((right _ _ f.2 e.2).0 e.3))
      go (Err Denied) h =
          let e = (denied_exactly m accepted a).0 h in
          let f = fellow e.1 e.2 in
          inr (Denied, h, no_right_denied n accepted' a f.1 f.3 (λ q. e.3 ((right _ _ f.2 e.2).1 q)))
      go (Err Nowhere) h =
          let k = (nowhere_exactly m a).0 h in
          let flash = held (sym same.flash_start) (sym same.flash_length) in
          let ram = held (sym same.ram_start) (sym same.ram_length) in
          inr (Nowhere, h, (nowhere_exactly n a).1 (λ q. k.0 (flash q), λ q. k.1 (ram q)))

  pub same_trouble : (x : ℕ) → trouble_at (look_of m a) x ≡ trouble_at (look_of n a) x
  unfolding Alike
  same_trouble x = ⊎_elim (λ h. let p = h.4 in let q = h.5 in cc) (λ h. let p = h.1 in let q = h.2 in rw (p, q)) alike

  pub same_look : ((r r' : Area) → Both m n r r' → Holds r a → get_or r.bytes (a - r.start) 0 ≡ get_or r'.bytes (a - r'.start) 0) → look_of m a ≡ look_of n a
  unfolding Alike
  same_look bytes = ⊎_elim (λ h. h.4 ∙ ap Ok (bytes _ _ h.2 h.3) ∙ sym h.5) (λ h. h.1 ∙ sym h.2) alike
