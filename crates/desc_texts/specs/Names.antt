-- The names of the shipped texts.
use Rattle.std.specs.Prelude.{ℕ, List, ◌≡◌, ◌⊎◌, codes}

-- a name under which a text is shipped
abbrev pub IsShipped : List ℕ → Type 0
IsShipped name = (name ≡ codes "sparc.sled") ⊎ ((name ≡ codes "sparc.ssl") ⊎ ((name ≡ codes "sparc.conv") ⊎ ((name ≡ codes "i386.sled") ⊎ ((name ≡ codes "i386.ssl") ⊎ ((name ≡ codes "i386.conv") ⊎ (name ≡ codes "uqbt.h"))))))
