-- What `text` puts out, by the answer.
use Rattle.std.specs.Prelude.{◌≡◌, ℕ, List, codes, if◌then◌else◌, Option, Some, None}
use Rattle.std.specs.Str.{bytes_eq}
use Rattle.desc_texts.specs.declared.i386_conv.TheConstants.{I386_CONV}
use Rattle.desc_texts.specs.declared.i386_sled.TheConstants.{I386_SLED}
use Rattle.desc_texts.specs.declared.i386_ssl.TheConstants.{I386_SSL}
use Rattle.desc_texts.specs.declared.sparc_conv.TheConstants.{SPARC_CONV}
use Rattle.desc_texts.specs.declared.sparc_sled.TheConstants.{SPARC_SLED}
use Rattle.desc_texts.specs.declared.sparc_ssl.TheConstants.{SPARC_SSL}
use Rattle.desc_texts.specs.declared.uqbt_h.TheConstants.{UQBT_H}
use Rattle.edge_io.specs.Told.{followed}
use Rattle.edge_io.specs.Output.{Output, TookPart}
use Rattle.uqbt_top.specs.declared.outcome.Outcome.{Outcome}
use Rattle.uqbt_top.specs.declared.outcome.Outcome.TheVariants.{Done, WriteFault}

-- the text that is shipped under a name
unfoldable pub shipped_text : List ℕ → Option (List ℕ)
shipped_text name =
    if bytes_eq name (codes "sparc.sled") then Some SPARC_SLED.now
    else if bytes_eq name (codes "sparc.ssl") then Some SPARC_SSL.now
    else if bytes_eq name (codes "sparc.conv") then Some SPARC_CONV.now
    else if bytes_eq name (codes "i386.sled") then Some I386_SLED.now
    else if bytes_eq name (codes "i386.ssl") then Some I386_SSL.now
    else if bytes_eq name (codes "i386.conv") then Some I386_CONV.now
    else if bytes_eq name (codes "uqbt.h") then Some UQBT_H.now else None

-- what the sink took of a text
abbrev pub TextPut : List ℕ → Output → Output → Outcome → Type 0
TextPut text out out' Done = out'.taken ≡ followed out.taken text
TextPut text out out' WriteFault = TookPart out out' text
TextPut text out out' _ = ⊥

-- a fact of `text` for the answers before the output
abbrev pub TextKeepsOut : Outcome → Type 0 → Type 0
TextKeepsOut Done kept = Unit {0}
TextKeepsOut WriteFault kept = Unit {0}
TextKeepsOut _ kept = kept
