use Rattle.std.proofs.Common.{◌≡◌, refl, sym, ap, ◌∙◌, subst, arith, length}
use Rattle.std.proofs.lemmas.Option.{slice_get_read}
use Rattle.std.proofs.lemmas.Result.{on_ok_weaker, on_err_weaker}
use Rattle.std.specs.Prelude.{Some, slice_get}
use Rattle.edge_io.specs.Output.{TookPart}
use Rattle.c_text.specs.Output.{Took}
use Rattle.listing.specs.Lists.{node_text}
use Rattle.listing.proofs.Texts.{place_is}
use Rattle.listing.proofs.list.put_place.Goals as goal

pub returns-clause-took : goal.returns-clause-took
returns-clause-took g c =
    let n = c.index-as_slice-place.result in
    let there : slice_get c.args.graph.now.nodes c.args.place ≡ Some n = ap (λ xs. slice_get xs c.args.place) (sym c.as_slice.ensures)
    ∙ slice_get_read c.as_slice.result.now (length c.as_slice.result.now) c.args.place n refl (omega (arith, c.requires.within, ap length c.as_slice.ensures)) c.index-as_slice-place.is in
    on_ok_weaker c.put_node.result
    (subst (Took (g.K.Sink.output c.args.out.now) (g.K.Sink.output c.put_node.new.out)) (ap (λ ts. node_text ts n) c.as_slice-2.ensures ∙ sym (place_is c.args.graph.now c.args.place n there)))
    c.put_node.ensures.took

pub returns-clause-part : goal.returns-clause-part
returns-clause-part g c =
    let n = c.index-as_slice-place.result in
    let there : slice_get c.args.graph.now.nodes c.args.place ≡ Some n = ap (λ xs. slice_get xs c.args.place) (sym c.as_slice.ensures)
    ∙ slice_get_read c.as_slice.result.now (length c.as_slice.result.now) c.args.place n refl (omega (arith, c.requires.within, ap length c.as_slice.ensures)) c.index-as_slice-place.is in
    on_err_weaker c.put_node.result
    (subst (TookPart (g.K.Sink.output c.args.out.now) (g.K.Sink.output c.put_node.new.out)) (ap (λ ts. node_text ts n) c.as_slice-2.ensures ∙ sym (place_is c.args.graph.now c.args.place n there)))
    c.put_node.ensures.part
