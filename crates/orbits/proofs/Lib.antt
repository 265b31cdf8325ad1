pub mod OrbitLaws
