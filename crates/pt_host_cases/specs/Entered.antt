-- Whether a world has entered a directory.
use Rattle.std.specs.Prelude.{◌≡◌, Bool, true, false, None, IsSome}
use Rattle.pt_host.specs.World.{World}

abbrev pub IsAt : Bool → World → Type 0
IsAt true w = IsSome w.dir
IsAt false w = w.dir ≡ None
