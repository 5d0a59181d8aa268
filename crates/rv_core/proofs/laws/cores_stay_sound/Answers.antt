use Rattle.rv_core.proofs.Reached.{advanced-keeps, answered-kept, answered-pairing}
use Rattle.rv_core.proofs.laws.cores_stay_sound.Goals as goal

pub returns : goal.returns
returns c = record {
  advanced = λ image core sound. (advanced-keeps c.fields_are_in_range.ensures.registers image core sound).sound;
  advanced_memory = λ image core sound. (advanced-keeps c.fields_are_in_range.ensures.registers image core sound).memory;
  advanced_fetching = λ image core sound. (advanced-keeps c.fields_are_in_range.ensures.registers image core sound).fetching;
  advanced_pairing = λ image core sound. (advanced-keeps c.fields_are_in_range.ensures.registers image core sound).pairing;
  answered = λ reply core sound. (answered-kept reply core sound).sound;
  answered_memory = λ reply core sound. (answered-kept reply core sound).memory;
  answered_fetching = λ reply core sound. (answered-kept reply core sound).fetching;
  answered_pairing = λ reply core now sound here. answered-pairing reply core now here sound;
}
