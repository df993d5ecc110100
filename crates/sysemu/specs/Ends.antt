-- How a service leaves the run.
use Rattle.rtl_core.specs.declared.stop.Reply.{Reply}
use Rattle.rtl_core.specs.declared.stop.Reply.TheVariants.{Value, Error}
use Rattle.sysemu.specs.declared.cell_service.Served.{Served}
use Rattle.sysemu.specs.declared.cell_service.Served.TheVariants.{Go, Exit}

-- an exit ends the run, after any other answer it goes on
abbrev pub end_of : Reply → Served
end_of (Reply.Exit x) = Exit x
end_of (Value k) = Go
end_of (Error e) = Go
