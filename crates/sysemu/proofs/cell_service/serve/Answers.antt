use Rattle.sysemu.proofs.cell_service.serve.Goals as goal

pub serve_shape-requires-clause-shape : goal.serve_shape-requires-clause-shape
serve_shape-requires-clause-shape g c = c.requires.conv.cells c.in-Some.shape c.in-Some.is
