-- Demand 3's premise is no more than it says. What document 01 calls a byte of an active element is exactly a byte that the definition asks for
-- (`touched_exactly`); and two benches meet the premise exactly when the areas agree there, whatever else they hold (`same_exactly`,
-- `rights_exactly`, `bytes_exactly`). So a premise that asks for more, or of other bytes, does not meet these laws.
use mathlib.Core.Path.{◌≡◌, refl, sym, ap, subst, ◌∙◌}
use mathlib.Core.Bool.{true}
use mathlib.Core.List.{List}
use mathlib.Core.Logic.{◌↔◌, ⊎_elim}
use Prim.Native.Nat.{ℕ, ◌-◌, ◌^◌, ◌<◌}
use native.Mathlib.Omega.{arith}
use lib.Dec.{eqb}
use lib.ListN.{length}
use borrow.Author.Tests.{eq-eqb, ne_eqb, eqb-true, eqb-false}
use Rattle.ground.specs.Sizes.{bytes_of}
use Rattle.ground.proofs.Laws.{true_or_false}
use Rattle.words.specs.Families.{read_of}
use Rattle.words.proofs.Decodes.{means_read, insn_means}
use Rattle.memory.specs.Addresses.{plus_of}
use Rattle.memory.specs.Areas.{Area, Areas, covers, place_in}
use Rattle.memory.specs.Said.{Holds, AreasAccepted, Both, flashes, rams}
use Rattle.memory.specs.declared.Place.{Place}
use Rattle.memory.proofs.Places.{holds_exactly, holds_not, place_flash, place_ram, place_nowhere}
use Rattle.steps.specs.Insns.{Insn, Decoded, Outside, Undefined, Ok, Err, Option}
use Rattle.steps.specs.Benches.{Lent, Bench, areas_in}
use Rattle.steps.specs.Answers.{Report}
use Rattle.steps.specs.Plans.{plan_of}
use Rattle.steps.specs.Lanes.{governing_bytes, wanted, element_at}
use Rattle.steps.specs.Step.{Stop, Go, planned_by, planned_of, at_stack, prepared_of, step_of}
use Rattle.steps.specs.Said.{Accepted, CanRead}
use Rattle.steps.specs.Demand1.{Ready, AllReadable}
use Rattle.steps.specs.Demand3.{Same, Touched, SameRights, SameBytes}
use Rattle.steps.specs.Asks.{AsksFor, right_at, number_at, AgreeAt, Agree, lent_with, bench_with}
use Rattle.steps.specs.declared.Plan.{Plan}
use Rattle.steps.proofs.Accepts.{accepted_exactly}
use Rattle.steps.proofs.Actives.{active_exactly}
use Rattle.steps.proofs.Places.{byte_lies}
use Rattle.steps.proofs.Gives.{ways, ready_plan, ran_only}

module _ (l : Lent) (w : ℕ) (b : Bench) where
  abbrev planned : Insn → Plan
  planned i = plan_of l.settings.vl b.scalars i

  -- a load that is ready is what the word is read as
  pub ready_reads : (i : Insn) → Ready l w b i → read_of w ≡ Ok i
  ready_reads i ready = means_read w (Ok i) ready.defined.reads

  -- it comes to its plan,
  to_plan : (i : Insn) → Ready l w b i → prepared_of l b.scalars w ≡ Go (planned i)
  unfolding prepared_of planned_of
  to_plan i ready =
      ap (λ (d : Decoded). at_stack l b.scalars (planned_by l.settings b.scalars d)) (ready_reads i ready) ∙ ready_plan l w b i ready

  -- and nothing else comes to a plan
  from_plan : w < 2 ^ 32 → Accepted l b → (p : Plan) → prepared_of l b.scalars w ≡ Go p → (i : Insn) × Ready l w b i × (planned i ≡ p)
  unfolding prepared_of planned_of
  from_plan small accepted p h = go (read_of w) refl h
    where
      stop : (r : Report) → Stop r ≡ Go p → ⊥
      stop r h = let z : ◌≡◌ {A = ℕ} 0 1 = cc in omega arith

      go : (d : Decoded) → read_of w ≡ d → at_stack l b.scalars (planned_by l.settings b.scalars d) ≡ Go p
          → (i : Insn) × Ready l w b i × (planned i ≡ p)
      go (Err Outside) e h = absurd (stop _ h)
      go (Err Undefined) e h = absurd (stop _ h)
      go (Ok i) e h = ⊎_elim (λ r. let q = r.1 in (i, r.0, cc)) (λ r. absurd (stop _ (sym r.2 ∙ h))) (ways l w b accepted i (insn_means w small i e))

  -- a byte of an active element is one that the definition asks for,
  asks_touched : (a : ℕ) → Touched l w b a → AsksFor l w b a
  asks_touched a t =
      let d = t.ready.defined in
      let h = (active_exactly l b.scalars d.accepted.allowed t.load t.load.shape d.long t.element).1 t.active in
      record {
        accepted = (accepted_exactly l b).1 d.accepted;
        plan = planned t.load;
        prepared = to_plan t.load t.ready;
        element = t.element;
        few = h.0;
        asked = h.1;
        byte = t.byte;
        within = t.within;
        lies = t.lies ∙ sym (byte_lies l b.scalars t.load t.element t.byte t.active);
      }

  -- and a byte of an element that the plan of a ready load asks for is a byte of an active element
  abbrev TouchedIn : ℕ → ℕ → Plan → Type 0
  TouchedIn e k p = (e < p.elements) × (wanted p (governing_bytes l p) e ≡ true) → k < bytes_of p.size → Touched l w b (plus_of (element_at p e) k)

  pub touched_by : (i : Insn) → Ready l w b i → (e k : ℕ) → TouchedIn e k (planned i)
  touched_by i ready e k h q =
      let d = ready.defined in
      let a = (active_exactly l b.scalars d.accepted.allowed i i.shape d.long e).0 h in
      record { load = i; ready = ready; element = e; active = a; byte = k; within = q; lies = byte_lies l b.scalars i e k a }

  touched_asked : w < 2 ^ 32 → (a : ℕ) → AsksFor l w b a → Touched l w b a
  touched_asked small a h =
      let r = from_plan small ((accepted_exactly l b).0 h.accepted) h.plan h.prepared in
      let there = subst (TouchedIn h.element h.byte) r.2 (touched_by r.0 r.1 h.element h.byte) in
      subst (Touched l w b) (sym h.lies) (there (h.few, h.asked) h.within)

  -- Document 01's bytes of the active elements are the bytes that the definition asks for.
  pub touched_exactly : w < 2 ^ 32 → (a : ℕ) → Touched l w b a ↔ AsksFor l w b a
  touched_exactly small a = (asks_touched a, touched_asked small a)

  -- the load that ran is the one that the word is read as
  pub ran_as : w < 2 ^ 32 → (i : Insn) → read_of w ≡ Ok i → (step_of l w b).report.number ≡ 0 → Ready l w b i × AllReadable l b i
  ran_as small i reads z =
      let r = ran_only l w b small z in
      let same : ◌≡◌ {A = Decoded} (Ok r.0) (Ok i) = sym (ready_reads r.0 r.1) ∙ reads in
      let e : r.0 ≡ i = cc in
      subst (λ (j : Insn). Ready l w b j × AllReadable l b j) e (r.1, r.2)

  -- A step that ran could read each of them: memory without the read right is then not among them.
  pub touched_readable : w < 2 ^ 32 → (a : ℕ) → Touched l w b a → (step_of l w b).report.number ≡ 0 → CanRead (areas_in l b) a
  touched_readable small a t z =
      let all = (ran_as small t.load (ready_reads t.load t.ready) z).1 in
      subst (CanRead (areas_in l b)) (sym t.lies) (all t.element t.active t.byte t.within)

-- an area that holds an address agrees with its fellow there
abbrev Fellows : {A : Type 0} → (Area → ℕ → A) → Areas → Areas → ℕ → Type 0
Fellows find m n a = (r r' : Area) → Both m n r r' → Holds r a → find r (a - r.start) ≡ find r' (a - r'.start)

-- two memories whose areas start alike agree at the place of an address exactly when each area that holds it agrees with its fellow
module _ {A : Type 0} (find : Area → ℕ → A) (m n : Areas) (accepted : AreasAccepted m)
    (flash : m.flash.start ≡ n.flash.start) (ram : m.ram.start ≡ n.ram.start) (a : ℕ) where
  abbrev At : Option Place → Type 0
  At p = AgreeAt find m n p

  moved : (r : Area) {x y : ℕ} → x ≡ y → find r (a - x) ≡ find r (a - y)
  moved r h = ap (λ (x : ℕ). find r (a - x)) h

  agree_fellows : At (place_in m a) → Fellows find m n a
  agree_fellows h r r' flashes k = subst At (place_flash m a k) h ∙ moved n.flash flash
  agree_fellows h r r' rams k = subst At (place_ram m a (λ f. accepted.share_none a f k) k) h ∙ moved n.ram ram

  fellows_agree : Fellows find m n a → At (place_in m a)
  fellows_agree h =
      ⊎_elim
      (λ e. let k = (holds_exactly m.flash a).0 e in subst At (sym (place_flash m a k)) (h _ _ flashes k ∙ sym (moved n.flash flash)))
      (λ e. let none = (holds_not m.flash a).0 e in ⊎_elim
      (λ f. let k = (holds_exactly m.ram a).0 f in subst At (sym (place_ram m a none k)) (h _ _ rams k ∙ sym (moved n.ram ram)))
      (λ f. subst At (sym (place_nowhere m a none ((holds_not m.ram a).0 f))) tt)
      (true_or_false (covers m.ram.start (length m.ram.bytes) a)))
      (true_or_false (covers m.flash.start (length m.flash.bytes) a))

-- a test of a bit is the statement that it is 1
same_bit : (x y : ℕ) → ((x ≡ 1) ↔ (y ≡ 1)) ↔ (eqb x 1 ≡ eqb y 1)
same_bit x y = (
  λ h. ⊎_elim
      (λ e. e ∙ sym (eq-eqb y 1 (h.0 (eqb-true x 1 e))))
      (λ e. e ∙ sym (ne_eqb y 1 (λ k. eqb-false x 1 e (h.1 k))))
      (true_or_false (eqb x 1)),
  λ h. (λ k. eqb-true y 1 (sym h ∙ eq-eqb x 1 k), λ k. eqb-true x 1 (h ∙ eq-eqb y 1 k)),
)

-- A bench, and the same with other contents and other rights.
module _ (l : Lent) (w : ℕ) (b : Bench) (flash flash_rights ram ram_rights : List ℕ) where
  abbrev l' : Lent
  l' = lent_with l flash flash_rights ram_rights

  abbrev b' : Bench
  b' = bench_with b ram

  abbrev s : Areas
  s = areas_in l b

  abbrev s' : Areas
  s' = areas_in l' b'

  -- what holds of each area over a byte of an active element, in the definition's words
  over_asked : {A : Type 0} (find : Area → ℕ → A) → w < 2 ^ 32 → ((a : ℕ) → Touched l w b a → Fellows find s s' a) ↔ Agree find l w b l' b'
  over_asked find small = (
    λ h a q. fellows_agree find s s' (areas q) refl refl a (h a ((touched_exactly l w b small a).1 q)),
    λ h a t. let q = (touched_exactly l w b small a).0 t in agree_fellows find s s' (areas q) refl refl a (h a q),
  )
    where
      areas : {a : ℕ} → AsksFor l w b a → AreasAccepted s
      areas q = ((accepted_exactly l b).0 q.accepted).areas

  -- They are the same set-up for demand 3 as soon as the areas are as long,
  pub same_exactly : Same l b l' b' ↔ ((length l.flash ≡ length flash) × (length b.ram ≡ length ram))
  same_exactly = (
    λ e. (e.flash, e.ram),
    λ h. record { settings = refl; predicates = refl; map = refl; flash = h.0; ram = h.1; vectors = refl; scalars = refl },
  )

  -- the rights are the same as soon as the read right is at each byte that the step asks for,
  pub rights_exactly : w < 2 ^ 32 → SameRights l w b l' b' ↔ Agree right_at l w b l' b'
  rights_exactly small = (
    λ h. (over_asked right_at small).0 (λ a t r r' q k. (same_bit _ _).0 (h a t r r' q k)),
    λ h a t r r' q k. (same_bit _ _).1 ((over_asked right_at small).1 h a t r r' q k),
  )

  -- and the bytes as soon as those bytes are.
  pub bytes_exactly : w < 2 ^ 32 → SameBytes l w b l' b' ↔ Agree number_at l w b l' b'
  bytes_exactly small = over_asked number_at small
