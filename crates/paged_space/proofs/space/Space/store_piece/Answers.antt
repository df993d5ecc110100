use Rattle.std.proofs.Common.{◌≡◌, length, arith}
use Rattle.paged_space.proofs.WholeSpace.{sound_again}
use Rattle.paged_space.proofs.space.Space.store_piece.Goals as goal

pub invariant_of-self : goal.invariant_of-self
invariant_of-self c =
    let ok = c.self.inside.frames.ok.0 in
    let l = c.store_piece_in.ensures.long in
    let d = c.deref_mut.ensures.len in
    let m : length c.store_piece_in.new.frames ≡ length c.self.inside.frames.items = omega (arith, l, d, ok) in
    let n : c.self.inside.frames.len ≡ length c.self.inside.frames.items = omega (arith, ok) in
    sound_again _ _ _ _ _ c.self.invariant m n c.store_piece_in.ensures.stored.once
