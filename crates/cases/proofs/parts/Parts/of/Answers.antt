-- `Parts::of` meets its contract: each part lies behind the one before it.
use Rattle.std.proofs.Common.{ℕ, ◌*◌, drop, ap, ◌∙◌}
use Rattle.cases.specs.Parts.{lent_in}
use Rattle.cases.proofs.Lends.{front, rests, bench_cut}
use Rattle.cases.proofs.parts.Parts.of.Goals as goal

pub returns-clause-lent : goal.returns-clause-lent
unfolding lent_in
returns-clause-lent c =
    let k = c.args.case in
    let r = rests k (c.split_at.ensures.back ∙ ap (λ (n : ℕ). drop n c.args.s.now) c.head_bytes.ensures.exactly)
    c.split_at-2.ensures.back c.split_at-3.ensures.back c.split_at-4.ensures.back c.split_at-5.ensures.back c.split_at-6.ensures.back c.split_at-7.ensures.back in
    rw (
      front r.predicates k.predicates c.split_at-3.ensures.front,
      front r.flash k.flash c.split_at-5.ensures.front,
      front r.flash_rights k.flash_rights c.split_at-6.ensures.front,
      front r.ram_rights k.ram_rights c.split_at-8.ensures.front,
    )

pub returns-clause-bench : goal.returns-clause-bench
returns-clause-bench c =
    let k = c.args.case in
    let r = rests k (c.split_at.ensures.back ∙ ap (λ (n : ℕ). drop n c.args.s.now) c.head_bytes.ensures.exactly)
    c.split_at-2.ensures.back c.split_at-3.ensures.back c.split_at-4.ensures.back c.split_at-5.ensures.back c.split_at-6.ensures.back c.split_at-7.ensures.back in
    bench_cut c.args.s.now k c.requires (front r.vectors k.vectors c.split_at-2.ensures.front)
    (front r.scalars (8 * k.scalars) c.split_at-4.ensures.front) (front r.ram k.ram c.split_at-7.ensures.front)
