-- The names that code looks up.
use Rattle.ssl_rules.specs.declared.line_names.LineNames.{LineNames}
use Rattle.ssl_rules.specs.Names.{Scope}

abbrev pub scope : LineNames → Scope
scope n = record { tables = n.tables.now; own = n.own.now }
