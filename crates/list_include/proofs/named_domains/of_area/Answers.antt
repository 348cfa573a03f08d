-- `list_include::named_domains::of_area` meets its contract: the scan's test is that of the AS and the area.
use mathlib.Core.Path.{sym, ap, ◌∙◌}
use Prim.Native.Nat.{ℕ}
use borrow.Author.Rules.{rules}
use Rattle.model.specs.Lists.{count_from, keep}
use Rattle.list_include.specs.NamedDomain.{found_of, area_is}
use Rattle.list_include.proofs.Hits.{area_scanned, area_of}
use Rattle.list_include.proofs.named_domains.of_area.Goals as goal

pub returns : goal.returns
returns c =
    let P = c.args.profile.now in
    let area = area_of c.args.list.now c.args.kind c.args.start c.args.count in
    let p = area_is P c.args.asn area in
    c.scan.ensures p (λ i b below post. search rules)
    ∙ ap (λ (n : ℕ). found_of (keep p (count_from 0 n))) c.domain_count.ensures
    ∙ ap found_of (sym (area_scanned P c.args.asn area))
