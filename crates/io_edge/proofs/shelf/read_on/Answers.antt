use Rattle.std.proofs.Common.{ℕ, List, length, min, ap, ◌∙◌}
use Rattle.io_edge.specs.Calls.{offered}
use Rattle.io_edge.specs.Shelf.{filled}
use Rattle.io_edge.proofs.Place.{slice_is_rest, rest_after}
use Rattle.io_edge.proofs.shelf.read_on.Goals as goal

pub returns-clause-rest : goal.returns-clause-rest
returns-clause-rest c =
    rest_after c.args.files.now c.args.place.now c.index-files-place.result c.as_slice-bytes.result.now c.min-start.result c.requires c.index-files-place.is c.as_slice-bytes.ensures.value c.min-start.ensures c.args.most (length c.args.buf.now) c.fill-count.result (c.fill-count.ensures.count ∙ ap (λ (r : List ℕ). min (length c.args.buf.now) (length r)) c.offered.ensures)

pub returns-clause-count : goal.returns-clause-count
returns-clause-count c =
    c.fill-count.ensures.count
    ∙ ap (λ (r : List ℕ). min (length c.args.buf.now) (length r)) c.offered.ensures
    ∙ ap (λ (r : List ℕ). min (length c.args.buf.now) (length (offered c.args.most r)))
    (slice_is_rest c.args.files.now c.args.place.now c.index-files-place.result c.as_slice-bytes.result.now c.min-start.result c.requires c.index-files-place.is c.as_slice-bytes.ensures.value c.min-start.ensures)

pub returns-clause-buffer : goal.returns-clause-buffer
returns-clause-buffer c =
    c.fill-count.ensures.buffer
    ∙ ap (filled c.args.buf.now) c.offered.ensures
    ∙ ap (λ (r : List ℕ). filled c.args.buf.now (offered c.args.most r))
    (slice_is_rest c.args.files.now c.args.place.now c.index-files-place.result c.as_slice-bytes.result.now c.min-start.result c.requires c.index-files-place.is c.as_slice-bytes.ensures.value c.min-start.ensures)
