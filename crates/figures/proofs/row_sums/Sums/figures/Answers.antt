-- `figures::row_sums::Sums::figures` meets its contract: each item is what the callee says, and the sums fit as `RowFits` says.
use Prim.Native.Nat.{◌-◌, ◌^◌}
use native.Mathlib.Omega.{arith}
use Rattle.model.proofs.Bounds.{product-within}
use Rattle.model.proofs.Units.{memory_is, load_is}
use Rattle.figures.specs.inner.OneRow.{row_from}
use Rattle.figures.proofs.ByKind.{by_kind-within}
use Rattle.figures.proofs.row_sums.Sums.figures.Goals as goal

pub mean-requires : goal.mean-requires
mean-requires c =
    let fits = c.requires in (
      fits.refs_fit,
      fits.some_d,
      rw (c.by_kind-wsocc.ensures, c.working_set-set.ensures) fits.wsocc_fits,
    )

pub total-requires : goal.total-requires
total-requires c =
    let missed = c.args.self.now.all.volume - c.args.self.now.kept.volume in
    omega (
      arith,
      c.requires,
      c.plus-optmem.ensures,
      c.load_of-load.ensures,
      product-within c.args.a missed (2 ^ 8) (2 ^ 24) (omega arith) (omega (arith, c.requires)),
    )

pub overflow_add-result : goal.overflow_add-result
overflow_add-result c =
    let k = c.args.self.now.kept in
    omega (
      arith,
      c.requires,
      c.by_kind.ensures,
      by_kind-within c.args.kind k.retentionz.0 k.retention.0 (2 ^ 46) (omega (arith, c.requires)) (omega (arith, c.requires)),
    )

pub returns : goal.returns
unfolding row_from
returns c =
    rw (
      c.by_kind.ensures,
      c.total.ensures,
      c.mean.ensures,
      c.by_kind-wsocc.ensures,
      c.working_set-set.ensures,
      memory_is c.plus-optmem.ensures,
      load_is c.load_of-load.ensures,
    )
