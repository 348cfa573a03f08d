-- `list_include::named_domains::of_system` meets its contract: the scan's test is that of the AS.
use mathlib.Core.Path.{sym, ap, ◌∙◌}
use Prim.Native.Nat.{ℕ}
use borrow.Author.Rules.{rules}
use Rattle.model.specs.Lists.{count_from, keep}
use Rattle.model.specs.Profile.{domain_at}
use Rattle.list_include.specs.NamedDomain.{found_of, system_is}
use Rattle.list_include.proofs.Hits.{system_scanned}
use Rattle.list_include.proofs.named_domains.of_system.Goals as goal

pub returns : goal.returns
unfolding domain_at
returns c =
    let P = c.args.profile.now in
    let p = system_is P c.args.asn in
    c.scan.ensures p (λ i b below post. search rules)
    ∙ ap (λ (n : ℕ). found_of (keep p (count_from 0 n))) c.domain_count.ensures
    ∙ ap found_of (sym (system_scanned P c.args.asn))
