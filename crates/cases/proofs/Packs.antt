-- The byte format, pinned from the writing side: a packed case is answered with the outcome that it is due, and nothing else is answered.
use Prim.Native.Nat.{ℕ, ◌+◌, ◌*◌, ◌≤◌}
use mathlib.Core.Path.{◌≡◌, refl, sym, ◌∙◌, ap}
use mathlib.Core.Bool.{Bool, true, false}
use mathlib.Core.List.{List, [], ◌++◌, append_cancel_left}
use mathlib.Core.Logic.{◌↔◌, ◌⊎◌, ⊎_elim}
use native.Mathlib.Omega.{arith}
use lib.Dec.{eqb, lit<, lit≤}
use lib.ListN.{length, drop, length-append}
use Rattle.std.specs.Prelude.{if◌then◌else◌, Ok, Err}
use Rattle.ground.specs.Lists.{EachBelow}
use Rattle.ground.proofs.Laws.{if_cases}
use Rattle.steps.specs.Step.{step_of}
use Rattle.cases.specs.Parts.{lent_in, bench_in, areas_in, case_bytes}
use Rattle.cases.specs.Heads.{head_of}
use Rattle.cases.specs.Outcomes.{outcome_length}
use Rattle.cases.specs.Answers.{After, answer_to, answer_in, outcome_in, after_case}
use Rattle.cases.specs.Packs.{Asked, packed, Packable, OpensWith, lent_for, bench_for, outcome_for, answer_for}
use Rattle.cases.specs.declared.heads.Case.{Case}
use Rattle.cases.specs.declared.heads.Refusal.{Refusal}
use Rattle.cases.specs.declared.heads.Question.{Question}
use Rattle.cases.specs.declared.heads.Question.TheVariants.{Step, Address, Lane}
use Rattle.cases.specs.declared.Answered.{Answered}
use Rattle.cases.specs.Inside.{Bounds}
use Rattle.cases.proofs.Limits.{longest_case}
use Rattle.cases.proofs.Flags.{none_strange, known_kind}
use Rattle.cases.proofs.Opens.{Good, good_opens, good_answered, answered_good, answered_or_refused}
use Rattle.cases.proofs.Unpacks.{case_for, kind_for, carried_for, packed_long, magic_read, flags_read, level_read, kind_there, head_read, asked_from, read_back}
use Rattle.cases.proofs.Repacks.{repacked, can_pack, repacked_long}
use Rattle.cases.proofs.Lengths.{step_long, outcome_long, window_long}

-- what is read of bytes is answered with the outcome that is due to it
answer_due : (s : List ℕ) (c : Case) → answer_in s c ≡ outcome_for (asked_from s c)
unfolding outcome_for lent_in bench_in areas_in
answer_due s c = go c.question refl
  where
    go : (u : Question) → c.question ≡ u → answer_to s c c.question ≡ outcome_for (asked_from s c)
    go Step e = rw e
    go (Address n) e = rw e
    go (Lane n) e = rw e

module _ (q : Asked) (can : Packable q) where
  outcome_for_long : outcome_length (case_for q) ≡ length (outcome_for q)
  unfolding outcome_for
  outcome_for_long = rw (kind_for q can) (go (eqb q.kind 0) refl)
    where
      go : (t : Bool) → eqb q.kind 0 ≡ t → (if eqb q.kind 0 then 25 + length q.z + 8 * length q.x else 33) ≡ length (outcome_for q)
      go true z =
          let o = step_of (lent_for q) q.word (bench_for q) in
          let kept = step_long (lent_for q) q.word (bench_for q) can.word in
          rw (z, outcome_long o, kept.0, kept.1)
      go false z = rw z (if_cases (λ (l : List ℕ). 33 ≡ length l) (eqb q.kind 2) _ _ (λ _. sym (window_long _)) (λ _. sym (window_long _)))

  module _ (rest : List ℕ) where
    abbrev stream : List ℕ
    stream = packed q ++ rest

    bounds : Bounds (case_for q)
    bounds =
        record {
          vectors = can.z.0;
          predicates = can.p.0;
          scalars = can.x.0;
          flash = can.flash.0;
          flash_rights = can.flash_rights.0;
          ram = can.ram.0;
          ram_rights = can.ram_rights.0;
          blob = rw (carried_for q can) can.blob.0;
        }

    pub good : Good stream
    good =
        let k = known_kind q.kind can.kind in
        record {
          head = record {
            begins = magic_read q can rest;
            flags = rw (flags_read q can rest) (none_strange q k.1);
            kind = rw (kind_there q can rest) k.0;
            level = rw (level_read q can rest) (omega (arith, can.level));
            bounds = rw (head_read q can rest) bounds;
          };
          whole = rw (head_read q can rest, packed_long q can) (omega (arith, length-append (packed q) rest));
        }

    taken_long : case_bytes (head_of stream) ≡ length (packed q)
    taken_long = ap case_bytes (head_read q can rest) ∙ packed_long q can

    pub given_long : outcome_length (head_of stream) ≡ length (outcome_for q)
    given_long = ap outcome_length (head_read q can rest) ∙ outcome_for_long

    -- A packed case, whatever follows it, is answered as it is due, if there is room for its outcome.
    pub packed_answered : (out : List ℕ) → length (outcome_for q) ≤ length out → after_case stream out ≡ answer_for q out
    unfolding outcome_in
    packed_answered out room =
        good_answered stream good out (rw given_long room)
        ∙ rw (taken_long, given_long, answer_due stream (head_of stream), read_back q can rest)

    -- .. of which none is longer than this
    pub outcome_most : length (outcome_for q) ≤ 66585
    outcome_most = rw given_long at (rw (good_opens stream good) at (longest_case stream)).1

opened_answered : (s : List ℕ) (q : Asked) → OpensWith s q → (out : List ℕ) → length (outcome_for q) ≤ length out → after_case s out ≡ answer_for q out
opened_answered s q (can, (rest, e)) out room = ap (λ (t : List ℕ). after_case t out) e ∙ packed_answered q can rest out room

-- Bytes that are answered open with a packed case, are answered as it is due, and its bytes are those that are taken.
pub answered_packed : (s out : List ℕ) → EachBelow 256 s → (a : Answered) → (after_case s out).answer ≡ Ok a
    → (q : Asked) × OpensWith s q × (after_case s out ≡ answer_for q out) × (a.taken ≡ length (packed q))
answered_packed s out bytes a e =
    let (g, taken, room) = answered_good s out a e in
    let q : Asked = asked_from s (head_of s) in
    let rest : List ℕ = drop (case_bytes (head_of s)) s in
    let can : Packable q = can_pack s bytes g in
    let whole : s ≡ packed q ++ rest = repacked s bytes g in
    let long = ap (λ (t : List ℕ). outcome_length (head_of t)) whole ∙ given_long q can rest in
    (q, (can, (rest, whole)), opened_answered s q (can, (rest, whole)) out (rw long at room), taken ∙ repacked_long s bytes g)

-- So exactly those bytes are refused, with nothing written, that open with no packed case.
pub refused_exactly : (s out : List ℕ) → EachBelow 256 s → 66585 ≤ length out
    → ((why : Refusal) × (after_case s out ≡ record { answer = Err why; out = out })) ↔ ((q : Asked) → OpensWith s q → ⊥)
refused_exactly s out bytes room = (
  λ r q h.
      let most = outcome_most q h.0 h.1.0 in
      let both = ap (λ (a : After). a.answer) (sym r.1 ∙ opened_answered s q h out (omega arith)) in
      let z : ◌≡◌ {A = ℕ} 0 1 = cc (both) in omega arith,
  λ closed. ⊎_elim (λ w. let a = answered_packed s out bytes w.0 w.1 in absurd (closed a.0 a.1)) (λ r. r) (answered_or_refused s out),
)

-- No bytes are packed from two things, nor end in two ways.
pub packed_unique : (q q' : Asked) → Packable q → Packable q' → (rest rest' : List ℕ) → packed q ++ rest ≡ packed q' ++ rest' → (q ≡ q') × (rest ≡ rest')
packed_unique q q' can can' rest rest' e =
    let same = sym (read_back q can rest) ∙ ap (λ (s : List ℕ). asked_from s (head_of s)) e ∙ read_back q' can' rest' in
    (same, append_cancel_left (packed q) rest rest' (e ∙ ap (λ (u : Asked). packed u ++ rest') (sym same)))

-- a case that lends nothing, of a kind
abbrev empty_case : ℕ → Asked
empty_case kind =
    record {
      word = 0;
      simd = false;
      sve = false;
      f64mm = false;
      kind = kind;
      level = 0;
      vl = 0;
      flash_start = 0;
      ram_start = 0;
      a0 = 0;
      a1 = 0;
      a2 = 0;
      a3 = 0;
      z = [];
      p = [];
      x = [];
      flash = [];
      flash_rights = [];
      ram = [];
      ram_rights = [];
      blob = [];
    }

empty_packable : (kind : ℕ) → (kind ≡ 0) ⊎ (kind ≡ 2) ⊎ (kind ≡ 3) → Packable (empty_case kind)
empty_packable kind here =
    record {
      word = lit< tt;
      vl = lit< tt;
      flash_start = lit< tt;
      ram_start = lit< tt;
      a0 = lit< tt;
      a1 = lit< tt;
      a2 = lit< tt;
      a3 = lit< tt;
      z = (lit≤ tt, λ k. lit< tt);
      p = (lit≤ tt, λ k. lit< tt);
      x = (lit≤ tt, λ k. lit< tt);
      flash = (lit≤ tt, λ k. lit< tt);
      flash_rights = (lit≤ tt, λ k. lit< tt);
      ram = (lit≤ tt, λ k. lit< tt);
      ram_rights = (lit≤ tt, λ k. lit< tt);
      blob = (lit≤ tt, λ k. lit< tt);
      level = lit≤ tt;
      kind = here;
      bare = λ _. (refl, refl, refl, refl, refl);
    }

-- Each kind that is here can be packed.
pub packable_met : (kind : ℕ) → (kind ≡ 0) ⊎ (kind ≡ 2) ⊎ (kind ≡ 3) → (q : Asked) × Packable q × (q.kind ≡ kind)
packable_met kind here = (empty_case kind, empty_packable kind here, refl)
