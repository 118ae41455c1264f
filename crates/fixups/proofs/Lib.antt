pub mod InsertFixups
pub mod DeleteFixups
