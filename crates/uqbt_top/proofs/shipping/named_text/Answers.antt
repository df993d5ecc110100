use Rattle.uqbt_top.proofs.ShippingLaws.{text_is}
use Rattle.uqbt_top.proofs.shipping.named_text.Goals as goal

pub returns : goal.returns
returns c = text_is c.args.name.now c.shipped.result c.shipped.ensures.sparc_sled c.shipped.ensures.sparc_ssl c.shipped.ensures.sparc_conv c.shipped.ensures.i386_sled c.shipped.ensures.i386_ssl c.shipped.ensures.i386_conv c.shipped.ensures.uqbt_h c.shipped.ensures.other
