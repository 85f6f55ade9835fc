-- The world of a story with one more event.
use Rattle.std.proofs.Common.{◌≡◌, ◌∙◌, ℕ, List, [], ◌∷◌, ◌++◌, refl, ap}
use Rattle.pt_host.specs.Disk.{shown, IsAtRest}
use Rattle.pt_host.specs.Listed.{FileList, by_name}
use Rattle.pt_host.specs.World.{World}
use Rattle.pt_memhost.specs.declared.event.Event.{Event}
use Rattle.pt_memhost.specs.declared.state.State.{State}
use Rattle.pt_memhost.specs.State.{Mirrors}
use Rattle.pt_memhost.proofs.Places.{start_shown, start_rests}
use Rattle.pt_memhost.specs.Story.{Story, start_world, after_event, world_after, world_of, with_event}

pub world_after-push : (events : List Event) (event : Event) (w : World) → world_after (events ++ event ∷ []) w ≡ after_event event (world_after events w)
unfolding world_after
world_after-push [] event w = refl
world_after-push (e ∷ events) event w = world_after-push events event (after_event e w)

-- What is held mirrors the story with one more event.
pub mirrors_more : (files : FileList) (before after : List ℕ) (events more : List Event) (event : Event) (state : State) → after ≡ before → more ≡ events ++ event ∷ []
    → Mirrors (after_event event (world_of (record { files = files; input = before; events = events }))) state → Mirrors (world_of (record { files = files; input = after; events = more })) state
mirrors_more files before after events more event state e f m = rw (e, f, world_after-push) m

pub mirrors_start : (files copy : FileList) (input kept : List ℕ) (events : List Event) (state : State) → copy ≡ files → kept ≡ input → events ≡ []
    → Mirrors (start_world files input) state → Mirrors (world_of (record { files = copy; input = kept; events = events })) state
unfolding world_after
mirrors_start files copy input kept events state e f g m = rw (e, f, g) m

pub next_world : (story : Story) (event : Event) → world_of (with_event story event) ≡ after_event event (world_of story)
next_world story event = world_after-push story.events event (start_world story.files story.input)

pub world_more : (before after : Story) (event : Event) → after ≡ with_event before event → world_of after ≡ after_event event (world_of before)
world_more before after event e = ap world_of e ∙ next_world before event

-- The world at the start.
pub first_world : (files : FileList) (input : List ℕ) → world_of (record { files = files; input = input; events = [] }) ≡ start_world files input
unfolding world_after
first_world files input = refl

pub first_shown : (files : FileList) (input name : List ℕ) → shown (world_of (record { files = files; input = input; events = [] })).now.fs name ≡ by_name files name
unfolding world_after
first_shown files input name = start_shown files name

pub first_rests : (files : FileList) (input : List ℕ) → IsAtRest (world_of (record { files = files; input = input; events = [] })).now.fs
unfolding world_after
first_rests files input = start_rests files
