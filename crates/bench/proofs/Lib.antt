pub mod PlantFacts
